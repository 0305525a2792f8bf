-- What the walk of a trace answers; cited by src/reader/tracing.rt.
--     found_plan a      the number of the node that was found
--     WalkedTo m i n a      the first node at or below i that holds the alias n, if there is one
use Rattle.std.specs.Prelude.{◌≡◌, ℕ, ◌<◌, Some, None, Option}
use Rattle.plan.specs.Names.{Name}
use Rattle.plan.specs.Model.{Model, count_of, tree_at}
use Rattle.plan.specs.Tracing.{holds_alias, nodes_in, first}
use Rattle.entries.specs.declared.node.PlanId.{PlanId}

abbrev pub found_plan : Option PlanId → Option ℕ
found_plan None = None
found_plan (Some p) = Some p.0

abbrev pub WalkedTo : Model → ℕ → Name → Option PlanId → Type 0
WalkedTo m i n None = first (holds_alias n) (nodes_in (tree_at m i)) ≡ None
WalkedTo m i n (Some q) = (q.0 < count_of m) × (first (holds_alias n) (nodes_in (tree_at m i)) ≡ Some (tree_at m q.0))
