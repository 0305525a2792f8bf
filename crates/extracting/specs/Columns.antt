-- Needed columns that are columns of the inputs, each of them once: so there are at most 256. Cited by src/walking.rt.
--     sided s fs      the fields fs as columns of the input s
--     columns_by F ns is      what a reference to a field of the inputs may be, where ns are the nodes
--     same_column m n      the same column of the same input
--     Columned cs ms      each of ms is one of cs, and none is there twice
use Rattle.std.specs.Prelude.{◌≡◌, Bool, true, not, ◌&&◌, List, [], ◌∷◌, ◌++◌, map}
use Rattle.plan.specs.Fields.{any, every}
use Rattle.plan.specs.Functions.{Functions}
use Rattle.plan.specs.Model.{Node, plan_in}
use Rattle.plan.specs.Plans.{fields_of}
use Rattle.plan.specs.Terms.{Field, same_field}
use Rattle.rewriting.specs.Routing.{Side, one, same_side, schema_columns, two}
use Rattle.stored.specs.Stored.{node_trees}
use Rattle.extracting.specs.declared.inputs.Inputs.{Inputs}
use Rattle.extracting.specs.declared.inputs.Inputs.TheVariants.{One, Two}

abbrev pub sided : Side → List Field → List (Side × Field)
sided s fs = map (λ f. (s, f)) fs

abbrev pub columns_by : Functions → List Node → Inputs → List (Side × Field)
columns_by F ns (One p) = sided one (schema_columns (fields_of F (plan_in (node_trees ns) p.0)))
columns_by F ns (Two l r) = sided one (schema_columns (fields_of F (plan_in (node_trees ns) l.0))) ++ sided two (schema_columns (fields_of F (plan_in (node_trees ns) r.0)))

abbrev pub same_column : Side × Field → Side × Field → Bool
same_column m n = same_side m.0 n.0 && same_field m.1 n.1

abbrev pub none_twice : List (Side × Field) → Bool
none_twice [] = true
none_twice (m ∷ ms) = not (any (same_column m) ms) && none_twice ms

abbrev pub is_among : List (Side × Field) → Side × Field → Bool
is_among cs m = any (same_column m) cs

pub record Columned (cs ms : List (Side × Field)) : Type 0 where
  pub among : every (is_among cs) ms ≡ true
  pub once : none_twice ms ≡ true
