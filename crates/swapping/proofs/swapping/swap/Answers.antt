use Rattle.std.proofs.Common.{eqb, length, sym, ap, ◌∙◌, arith}
use Rattle.std.proofs.lemmas.List.{length_push}
use Rattle.std.proofs.lemmas.Bool.{and_parts, ltb-true}
use Rattle.plan.specs.Calls.{below}
use Rattle.plan.specs.Model.{origin_at}
use Rattle.tables.specs.Holding.{model_of, plan_count}
use Rattle.swapping.proofs.Swaps.{swapped}
use Rattle.swapping.proofs.swapping.swap.Goals as goal

pub give_origin-requires : goal.give_origin-requires
give_origin-requires c =
    let s = c.in_ok-new.ensures.1 in
    let count = ap length s.plans ∙ length_push (model_of c.args.tables.now).plans _ in
    let t = c.args.tables.now in
    let here = ltb-true c.args.node.0 (plan_count t) (and_parts (below (plan_count t) c.args.node.0) _ (sym c.has_both.ensures ∙ c.in_ok-ask.ensures)).0 in
    record { node = omega (arith, count, s.number); older = omega (arith, c.record_of.ensures.older, s.number, here) }

pub returns : goal.returns
returns c =
    let m = model_of c.args.tables.now in
    let s = c.in_ok-new.ensures in
    swapped m _ _ c.args.node.0 c.args.position c.args.input.0 c.in_ok-new.new.0 c.record_of.result.origin.0
    (sym c.has_both.ensures ∙ c.in_ok-ask.ensures, (sym c.has_input.ensures ∙ c.in_ok-ask-2.ensures, (ap (λ x. eqb (origin_at m x) (origin_at m c.args.input.0)) (sym c.input_at-old.ensures.value) ∙ sym c.same_origin.ensures ∙ c.in_ok-ask-3.ensures, tt)))
    s.0 s.1 c.record_of.ensures.origin c.give_origin.ensures
