use Rattle.std.proofs.Common.{[], ◌∷◌, sym, refl, ◌∙◌}
use Rattle.plan.specs.Calls.Call.{make_limit}
use Rattle.plan.specs.declared.fault.Question.TheVariants.{Present}
use Rattle.stored.specs.declared.node.NewNode.TheVariants.{Limit}
use Rattle.building.proofs.NodeAnswers.{plan-answers}
use Rattle.building.proofs.nodes.limit.Goals as goal

pub returns : goal.returns
returns c =
    let t = c.args.tables.now in
    plan-answers t (Limit c.args.input c.args.skip c.args.count) (make_limit c.args.input.0 c.args.skip c.args.count) ((Present, _) ∷ [])
    (record { asks = refl; own_first = refl; exprs = refl; plans = refl; inputs = refl; costs = refl; number = refl })
    (sym c.has.ensures ∙ c.in_ok-ask.ensures, tt)
    c.make.result _ c.make.ensures.made
