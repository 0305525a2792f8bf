use Rattle.std.proofs.Common.{◌∙◌, arith, rules}
use Rattle.std.proofs.lemmas.Iterator.{YieldsList-from_slice, YieldsList-from_map}
use Rattle.std.proofs.lemmas.Iterator.Consumers.{sum_by_from_yields_List}
use Rattle.plan.specs.Plans.{plan_size_of}
use Rattle.entries.specs.declared.node.PlanId.{PlanId}
use Rattle.tables.specs.Holding.{tree_in, plan_count}
use Rattle.terms.proofs.Walks.{serves_low}
use Rattle.tables.proofs.Inputs.{sizes-added, sizes-small}
use Rattle.asking.proofs.measuring.sizes_of.Goals as goal

pub sum-requires-clause-can : goal.sum-requires-clause-can
sum-requires-clause-can c =
    let n = plan_count c.args.tables.now in
    let ps = c.args.inputs.now in
    (tt, serves_low (λ y. y.0) n (YieldsList-from_slice ps cc) c.requires.present (λ x q k. search rules) (λ x h. search rules))

pub returns : goal.returns
returns c =
    let t = c.args.tables.now in
    let ps = c.args.inputs.now in
    let s = sum_by_from_yields_List (λ (p : PlanId). plan_size_of (tree_in t p.0)) ps c.map.result _ c.sum.ensures.ran (YieldsList-from_map _ (λ (p : PlanId). plan_size_of (tree_in t p.0)) (YieldsList-from_slice ps cc) c.map.ensures.closure (λ x r q k. search rules)) in
    record { value = s ∙ sizes-added t ps; bound = omega (arith, s, sizes-small t ps c.requires.present, c.requires.few) }
