use Rattle.std.proofs.Common.{sym, ◌∙◌, arith}
use Rattle.plan.specs.Model.{inputs_at, plan_in}
use Rattle.plan.specs.Tracing.{holds_alias, first}
use Rattle.table.proofs.Loops.{mapped_end}
use Rattle.tables.specs.Holding.{model_of, trees_in}
use Rattle.looking.proofs.Traces.{nodes_among, walk_here, walk-on, turn-found, turn_on}
use Rattle.looking.proofs.reader.Reader.+trace_from.Goals as goal

pub returns-then-holds_alias : goal.returns-then-holds_alias
returns-then-holds_alias t c =
    (c.requires, walk_here (model_of c.args.self.tables.now) c.args.p.0 c.args.name.now (sym c.if-holds_alias.ensures))

pub returns-in-Some : goal.returns-in-Some
returns-in-Some t c =
    let s = c.args.self.tables.now in
    let n = c.args.name.now in
    let w = c.in-Some.ensures in
    (w.0, walk-on s c.args.p.0 n c.requires (sym c.if-holds_alias.ensures) ∙ c.loop-k.invariant ∙ turn-found s c.args.p.0 c.loop-k.k c.input_at.result.0 n (omega (arith, c.input_count-count.ensures, c.loop-k-test.true)) c.input_at.ensures.value _ w.1)

pub loop-k-preserved : goal.loop-k-preserved
loop-k-preserved t c =
    let s = c.args.self.tables.now in
    c.loop-k.invariant ∙ turn_on s c.args.p.0 c.loop-k.k c.input_at.result.0 c.args.name.now (omega (arith, c.input_count-count.ensures, c.loop-k-test.true)) c.input_at.ensures.value c.in_default.ensures

pub returns : goal.returns
returns t c =
    let s = c.args.self.tables.now in
    let n = c.args.name.now in
    walk-on s c.args.p.0 n c.requires (sym c.if-holds_alias.ensures) ∙ c.loop-k.invariant
    ∙ mapped_end (λ ps. first (holds_alias n) (nodes_among ps)) (plan_in (trees_in s)) (inputs_at (model_of s) c.args.p.0) c.loop-k.k (omega (arith, c.input_count-count.ensures, c.loop-k-test.false))
