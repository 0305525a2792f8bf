use Rattle.std.proofs.Common.{rules}
use Rattle.std.proofs.lemmas.Iterator.Consumers.{count_from_yields_List}
use borrow.Author.Tests.{tests}
use Rattle.names.proofs.Parting.{parts-from_split}
use Rattle.names.proofs.parts.count_names.Goals as goal

pub returns : goal.returns
returns c =
    let split = c.split.ensures in
    count_from_yields_List c.split.result c.count.result c.count.ensures.ran
    (parts-from_split _ c.args.text.now split.rest split.done split.closure (λ x b q k. search (rules, tests)))
