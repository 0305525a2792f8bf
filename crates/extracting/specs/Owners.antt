-- The inputs of the node that is asked about; cited by src/inputs.rt.
--     inputs_in k is      they are among the first k nodes
--     owner_by F ns is e      the input that owns e, where ns are the nodes
use Rattle.std.specs.Prelude.{ℕ, Bool, ◌&&◌, List, Option, nat_lt}
use Rattle.plan.specs.Functions.{Functions}
use Rattle.plan.specs.Model.{Node, plan_in}
use Rattle.plan.specs.Plans.{fields_of}
use Rattle.plan.specs.Terms.{Expr}
use Rattle.rewriting.specs.Routing.{Side, find_owning_input, find_sole_input, schema_columns}
use Rattle.stored.specs.Stored.{node_trees}
use Rattle.extracting.specs.declared.inputs.Inputs.{Inputs}
use Rattle.extracting.specs.declared.inputs.Inputs.TheVariants.{One, Two}

abbrev pub inputs_in : ℕ → Inputs → Bool
inputs_in k (One p) = nat_lt p.0 k
inputs_in k (Two l r) = nat_lt l.0 k && nat_lt r.0 k

abbrev pub owner_by : Functions → List Node → Inputs → Expr → Option Side
owner_by F ns (One p) e = find_sole_input (schema_columns (fields_of F (plan_in (node_trees ns) p.0))) e
owner_by F ns (Two l r) e = find_owning_input (schema_columns (fields_of F (plan_in (node_trees ns) l.0))) (schema_columns (fields_of F (plan_in (node_trees ns) r.0))) e
