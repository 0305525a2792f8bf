use Rattle.std.proofs.Common.{◌∙◌, rules}
use Rattle.std.proofs.lemmas.Iterator.{YieldsList-from_slice}
use Rattle.std.proofs.lemmas.Iterator.Search.{all_from_yields_List}
use borrow.Author.Tests.{tests}
use Rattle.plan.specs.Names.{plain_byte}
use Rattle.names.proofs.Bytes.{all_plain}
use Rattle.names.proofs.is_plain.Goals as goal

pub returns : goal.returns
returns c =
    let xs = c.args.name.now in
    all_from_yields_List plain_byte _ _ c.all.result c.all.ensures.ran (YieldsList-from_slice xs (cc)) (λ x b q k. search (rules, tests)) ∙ all_plain xs
