use Rattle.std.proofs.Common.{◌∙◌, rules, tests}
use Rattle.std.proofs.lemmas.Iterator.{YieldsList-from_slice}
use Rattle.std.proofs.lemmas.Iterator.Search.{all_from_yields_List}
use Rattle.entries.specs.declared.node.PlanId.{PlanId}
use Rattle.plan.specs.Calls.{below}
use Rattle.terms.proofs.Walks.{every-mapped}
use Rattle.tables.specs.Holding.{plan_count}
use Rattle.building.proofs.wider.has_inputs.Goals as goal

pub returns : goal.returns
returns c =
    all_from_yields_List (λ (p : PlanId). below (plan_count c.args.tables.now) p.0) _ _ c.all.result c.all.ensures.ran (YieldsList-from_slice _ c.iter.ensures.rest) (λ x b q k. search (rules, tests))
    ∙ every-mapped (below (plan_count c.args.tables.now)) (λ p. p.0) c.args.inputs.now
