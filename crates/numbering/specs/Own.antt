-- The names that stand at a place of the tables itself, and not at its parts; cited by src/next.rt.
--     own_names e      those of an expression: a text literal, the name and the qualifier of a reference or an alias
--     relation_names p      what a plan calls a relation: a Table's qualifier, a SubqueryAlias's name
--     node_own F n      the names of a node's fields, and what it calls a relation
--     capped names      the highest number among names; one of more than nine digits counts as NUMBER_CAP
use Rattle.std.specs.Prelude.{ℕ, min, List, [], ◌∷◌, ◌++◌, map}
use Rattle.names.specs.declared.TheConstants.{NUMBER_CAP}
use Rattle.plan.specs.Functions.{Functions}
use Rattle.plan.specs.Model.{Node}
use Rattle.plan.specs.Names.{Name}
use Rattle.plan.specs.Plans.{Plan, fields_of}
use Rattle.plan.specs.Plans.Plan.{table, projection, filter, sort, limit, aggregate, join, subquery_alias, union}
use Rattle.plan.specs.Terms.{Expr, Field}
use Rattle.plan.specs.Terms.Expr.{literal, reference, alias, call}
use Rattle.rewriting.specs.Generated.{field_names, highest, literal_names}

abbrev pub own_names : Expr → List Name
own_names (literal v) = literal_names v
own_names (reference f) = field_names f
own_names (alias e f) = field_names f
own_names (call n es) = []

abbrev pub relation_names : Plan → List Name
relation_names (table k q ns) = q ∷ []
relation_names (projection es i) = []
relation_names (filter e i) = []
relation_names (sort ks i) = []
relation_names (limit s c i) = []
relation_names (aggregate gs ts i) = []
relation_names (join k cs l r) = []
relation_names (subquery_alias n i) = n ∷ []
relation_names (union i is) = []

abbrev pub names_in : List Field → List Name
names_in fs = map (λ f. f.name) fs

abbrev pub node_own : Functions → Node → List Name
node_own F n = names_in (fields_of F n.tree) ++ relation_names n.tree

abbrev pub capped : List Name → ℕ
capped names = min (highest 0 names) NUMBER_CAP
