use Rattle.std.proofs.Common.{not, [], ◌∷◌, sym, refl, ap, ◌∙◌}
use Rattle.plan.specs.Calls.Call.{make_filter}
use Rattle.plan.specs.declared.fault.Question.TheVariants.{Present, Placed}
use Rattle.stored.specs.declared.node.NewNode.TheVariants.{Filter}
use Rattle.tables.proofs.Lent.{total-lent}
use Rattle.building.proofs.NodeAnswers.{plan-answers}
use Rattle.building.proofs.nodes.filter.Goals as goal

pub returns : goal.returns
returns c =
    let t = c.args.tables.now in
    plan-answers t (Filter c.args.input c.args.predicate) (make_filter c.args.input.0 c.args.predicate.0) ((Present, _) ∷ (Placed, _) ∷ [])
    (record { asks = refl; own_first = refl; exprs = refl; plans = refl; inputs = refl; costs = refl; number = refl })
    (sym c.has_expr.ensures ∙ c.in_ok-ask.ensures, (ap not (sym (c.is_total.ensures ∙ total-lent t _ c.terms.ensures c.args.predicate.0)) ∙ c.in_ok-ask-2.ensures, tt))
    c.make.result _ c.make.ensures.made
