use Rattle.std.proofs.Common.{sym, ◌∙◌}
use Rattle.std.proofs.lemmas.Bool.{cond-true}
use Rattle.plan.specs.Calls.{below}
use Rattle.plan.specs.Names.{good_name}
use Rattle.tables.specs.Holding.{model_of, plan_count}
use Rattle.looking.proofs.Traces.{walked}
use Rattle.looking.proofs.reader.Reader.trace.Goals as goal

pub returns : goal.returns
returns c =
    let t = c.args.self.tables.now in
    let n = c.args.name.now in (
      cond-true (below (plan_count t) c.args.node.0) _ _ (sym c.has.ensures ∙ c.in_ok-ask.ensures) ∙ cond-true (good_name n) _ _ (sym c.good_name.ensures ∙ c.in_ok-ask-2.ensures),
      walked (model_of t) c.args.node.0 n c.trace_from.result c.trace_from.ensures,
    )
