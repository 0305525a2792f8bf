use Rattle.std.proofs.Common.{eqb, length, get_or, sym, ap, ◌∙◌, arith, rules, tests}
use Rattle.std.proofs.lemmas.Iterator.{YieldsList-from_slice}
use Rattle.std.proofs.lemmas.Iterator.Adapters.{serves_from_places}
use Rattle.std.proofs.lemmas.Iterator.Search.{all_from_yields_List}
use Rattle.plan.specs.Model.{plan_in}
use Rattle.plan.specs.Plans.{fields_of}
use Rattle.entries.specs.declared.node.PlanId.{PlanId}
use Rattle.tables.specs.Holding.{view_in, trees_in, fields_at, plan_count}
use Rattle.terms.proofs.Walks.{every-twice, item_below}
use Rattle.building.proofs.WiderFacts.{equal-widths}
use Rattle.building.proofs.wider.same_widths.Goals as goal

pub all-requires-clause-callable : goal.all-requires-clause-callable
all-requires-clause-callable c =
    let n = plan_count c.args.tables.now in
    let ps = c.args.inputs.now in
    serves_from_places (YieldsList-from_slice ps c.iter.ensures.rest) (λ x q r. search (rules, tests)) (λ x k lt e.
    (λ _ _ _ _ _ _ _. omega (arith, lt), λ _ _ _ _ _ _ _ _ _. (omega (arith, item_below (λ p. p.0) n ps k x.now lt c.requires, ap (λ p. p.0) e), item_below (λ p. p.0) n ps 0 (record { 0 = 0 }) (omega (arith, lt)) c.requires)))

pub returns : goal.returns
returns c =
    let t = c.args.tables.now in
    let ps = c.args.inputs.now in
    let width = length (fields_at t (get_or ps 0 (record { 0 = 0 })).0) in
    all_from_yields_List (λ (p : PlanId). eqb (length (fields_at t p.0)) width) _ _ c.all.result c.all.ensures.ran (YieldsList-from_slice _ c.iter.ensures.rest) (λ x b q k. search (rules, tests))
    ∙ every-twice (λ q. eqb (length (fields_of (view_in t).functions q)) width) (plan_in (trees_in t)) (λ p. p.0) ps
    ∙ sym (equal-widths (view_in t).functions (trees_in t) ps (record { 0 = 0 }))
