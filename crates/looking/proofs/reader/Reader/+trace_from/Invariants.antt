use Rattle.std.proofs.Common.{◌≡◌, map, drop}
use Rattle.plan.specs.Model.{inputs_at, plan_in}
use Rattle.plan.specs.Tracing.{holds_alias, first}
use Rattle.tables.specs.Holding.{model_of, trees_in}
use Rattle.looking.proofs.Traces.{nodes_among}
use Rattle.looking.proofs.reader.Reader.+trace_from.Given as goal

abbrev pub decreases-trace_from : goal.decreases-trace_from
decreases-trace_from l = l.p.0

abbrev pub invariant-loop-k : goal.invariant-loop-k
invariant-loop-k l =
    let all = map (plan_in (trees_in l.self.tables.now)) (inputs_at (model_of l.self.tables.now) l.p.0) in
    first (holds_alias l.name) (nodes_among all) ≡ first (holds_alias l.name) (nodes_among (drop l.k all))
