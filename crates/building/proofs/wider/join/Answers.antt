use Rattle.std.proofs.Common.{◌≡◌, not, ◌&&◌, leb, List, [], ◌∷◌, ◌++◌, length, Some, Option, is_some, sym, refl, ap, ◌∙◌, ap₂, arith, rules}
use Rattle.std.proofs.lemmas.Grind.{common_steps}
use Rattle.std.proofs.lemmas.List.{length-map}
use Rattle.plan.specs.Calls.Call.{make_join}
use Rattle.plan.specs.Calls.{below, all_below, node_outlay, kind_in}
use Rattle.plan.specs.Faults.{Asked}
use Rattle.plan.specs.Fields.{any}
use Rattle.plan.specs.Functions.{is_total}
use Rattle.plan.specs.Codes.{join_kind_of}
use Rattle.plan.specs.Model.{exprs_in, plan_in}
use Rattle.plan.specs.Plans.{Plan}
use Rattle.plan.specs.Plans.Plan.{join}
use Rattle.plan.specs.Questions.{node_asked}
use Rattle.plan.specs.declared.code.JoinKind.{JoinKind}
use Rattle.plan.specs.declared.fault.Question.TheVariants.{Present, Bounded, Placed}
use Rattle.terms.specs.Views.{numbers_of}
use Rattle.tables.specs.Holding.{view_in, trees_in, plan_count}
use Rattle.stored.specs.declared.node.NewNode.TheVariants.{Join}
use Rattle.tables.proofs.Lent.{totals-lent}
use Rattle.building.proofs.NodeAnswers.{plan-answers}
use Rattle.building.proofs.wider.join.Goals as goal

pub returns-in_err-ask-3 : goal.returns-in_err-ask-3
returns-in_err-ask-3 c =
    let lent = c.any_total.ensures ∙ totals-lent c.args.tables.now _ c.terms.ensures (numbers_of c.args.on.now) in
    grind (arith, common_steps)

pub returns : goal.returns
returns c =
    let t = c.args.tables.now in
    let cs = c.args.on.now in
    let e : join_kind_of c.args.kind ≡ Some c.in_ok-kind.kind = search rules in
    let long = length-map cs (λ x. x.0) in
    let tree : Option JoinKind → Plan = λ o. join (kind_in o) (exprs_in (view_in t).trees (numbers_of cs)) (plan_in (trees_in t) c.args.left.0) (plan_in (trees_in t) c.args.right.0) in
    let fs = (view_in t).functions in
    let own : List Asked =
    (Present, (below (plan_count t) c.args.left.0 && below (plan_count t) c.args.right.0) && all_below (length (view_in t).trees) (numbers_of cs))
    ∷ (Bounded, is_some (join_kind_of c.args.kind) && leb (length (numbers_of cs)) 16)
    ∷ (Placed, not (any (is_total fs) (exprs_in (view_in t).trees (numbers_of cs)))) ∷ [] in
    plan-answers t (Join c.in_ok-kind.kind c.args.left c.args.right c.args.on) (make_join c.args.kind c.args.left.0 c.args.right.0 (numbers_of cs)) own
    (record { asks = refl; own_first = ap (λ o. own ++ node_asked fs (tree o)) e; exprs = refl; plans = ap (λ o. record { tree = tree o; origin = plan_count t } ∷ []) e; inputs = refl; costs = ap₂ (λ o k. node_outlay fs (tree o) k 0) e long; number = refl })
    (sym c.has_sides.ensures ∙ c.in_ok-ask.ensures, (ap₂ (λ o l. is_some o && leb l 16) e long ∙ c.in_ok-ask-2.ensures, (ap not (sym (c.any_total.ensures ∙ totals-lent t _ c.terms.ensures (numbers_of cs))) ∙ c.in_ok-ask-3.ensures, tt)))
    c.make.result _ c.make.ensures.made
