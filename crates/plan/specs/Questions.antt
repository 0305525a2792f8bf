-- The questions that a node of a plan is asked when it is made: 6 to 8, in that order.
--     expressions_of p, input_fields fs p      the node's own expressions; the fields that they refer to
--     joint_fields fs p      the fields that must be lawful together
--     node_asked fs p      the questions with their answers
use Rattle.std.specs.Prelude.{Bool, true, ◌&&◌, List, [], ◌∷◌, ◌++◌, map, length, nat_le}
use Rattle.plan.specs.Terms.{Field, Expr, size_of}
use Rattle.plan.specs.Terms.Expr.{literal, reference, alias, call}
use Rattle.plan.specs.Functions.{Functions}
use Rattle.plan.specs.Rendering.{rendered}
use Rattle.plan.specs.Plans.{Plan, fields_of, plan_size_of}
use Rattle.plan.specs.Plans.Plan.{table, projection, filter, sort, limit, aggregate, join, subquery_alias, union}
use Rattle.plan.specs.Fields.{every, resolved, lawful}
use Rattle.plan.specs.Faults.{Asked}
use Rattle.plan.specs.declared.fault.Question.TheVariants.{Resolved, Lawful, Limited}

-- the expressions of the node itself
abbrev pub expressions_of : Plan → List Expr
expressions_of (table k q ns) = []
expressions_of (projection es i) = es
expressions_of (filter e i) = e ∷ []
expressions_of (sort ks i) = map (λ k. k.by) ks
expressions_of (limit s c i) = []
expressions_of (aggregate gs ts i) = gs ++ ts
expressions_of (join k cs l r) = cs
expressions_of (subquery_alias n i) = []
expressions_of (union i is) = []

-- all its inputs' fields; a Union has no expression
abbrev pub input_fields : Functions → Plan → List Field
input_fields fs (table k q ns) = []
input_fields fs (projection es i) = fields_of fs i
input_fields fs (filter e i) = fields_of fs i
input_fields fs (sort ks i) = fields_of fs i
input_fields fs (limit s c i) = fields_of fs i
input_fields fs (aggregate gs ts i) = fields_of fs i
input_fields fs (join k cs l r) = fields_of fs l ++ fields_of fs r
input_fields fs (subquery_alias n i) = fields_of fs i
input_fields fs (union i is) = fields_of fs i

-- a Join's two lists together, also where it shows one; else the node's own fields
abbrev pub joint_fields : Functions → Plan → List Field
joint_fields fs (table k q ns) = fields_of fs (table k q ns)
joint_fields fs (projection es i) = fields_of fs (projection es i)
joint_fields fs (filter e i) = fields_of fs i
joint_fields fs (sort ks i) = fields_of fs i
joint_fields fs (limit s c i) = fields_of fs i
joint_fields fs (aggregate gs ts i) = fields_of fs (aggregate gs ts i)
joint_fields fs (join k cs l r) = fields_of fs l ++ fields_of fs r
joint_fields fs (subquery_alias n i) = fields_of fs (subquery_alias n i)
joint_fields fs (union i is) = fields_of fs (union i is)

-- the expressions that give the node its fields
abbrev pub shown_expressions : Plan → List Expr
shown_expressions (table k q ns) = []
shown_expressions (projection es i) = es
shown_expressions (filter e i) = []
shown_expressions (sort ks i) = []
shown_expressions (limit s c i) = []
shown_expressions (aggregate gs ts i) = gs ++ ts
shown_expressions (join k cs l r) = []
shown_expressions (subquery_alias n i) = []
shown_expressions (union i is) = []

-- a field that takes its name by rendering has at most 255 bytes
abbrev pub short_name : Functions → Expr → Bool
short_name fs (literal v) = nat_le (length (rendered fs (literal v))) 255
short_name fs (reference f) = true
short_name fs (alias e f) = true
short_name fs (call n es) = nat_le (length (rendered fs (call n es))) 255

abbrev pub small_tree : Expr → Bool
small_tree e = nat_le (size_of e) 256

-- question 8
abbrev pub limited : Functions → Plan → Bool
limited fs p = (nat_le (length (fields_of fs p)) 64 && nat_le (plan_size_of p) 64) && (every small_tree (expressions_of p) && every (short_name fs) (shown_expressions p))

abbrev pub node_asked : Functions → Plan → List Asked
node_asked fs p = (Resolved, every (resolved (input_fields fs p)) (expressions_of p)) ∷ (Lawful, lawful (joint_fields fs p)) ∷ (Limited, limited fs p) ∷ []
