use Rattle.std.proofs.Common.{◌∙◌, rules}
use Rattle.std.proofs.lemmas.Iterator.Search.{all_from_yields_List}
use borrow.Author.Tests.{tests}
use Rattle.plan.specs.Names.{good_name}
use Rattle.plan.specs.Calls.{parts}
use Rattle.names.proofs.Parting.{parts-from_split, all_good}
use Rattle.names.proofs.parts.good_names.Goals as goal

pub returns : goal.returns
returns c =
    let split = c.split.ensures in
    all_from_yields_List good_name _ _ c.all.result c.all.ensures.ran
    (parts-from_split _ c.args.text.now split.rest split.done split.closure (λ x b q k. search (rules, tests))) (λ x b q k. search (rules, tests))
    ∙ all_good (parts c.args.text.now)
