use Rattle.std.proofs.Common.{not, ◌∙◌, rules, tests}
use Rattle.std.proofs.lemmas.Iterator.{YieldsList-from_slice}
use Rattle.std.proofs.lemmas.Iterator.Search.{all_from_yields_List}
use Rattle.plan.specs.Functions.{is_keep}
use Rattle.routing.specs.Placing.{named}
use Rattle.routing.proofs.Placing.{none-kept}
use Rattle.routing.proofs.placement.none_stays.Goals as goal

pub returns : goal.returns
returns c =
    all_from_yields_List (λ p. not (is_keep (named p))) _ _ c.all.result c.all.ensures.ran (YieldsList-from_slice _ c.iter.ensures.rest) (λ x b q k. search (rules, tests))
    ∙ none-kept c.args.arguments.now
