use Rattle.std.proofs.Common.{length, ◌∙◌, rules, tests}
use Rattle.std.proofs.lemmas.Iterator.{YieldsList-from_slice}
use Rattle.std.proofs.lemmas.Iterator.Search.{all_from_yields_List}
use Rattle.plan.specs.Calls.{below}
use Rattle.tables.specs.Holding.{view_in}
use Rattle.stored.specs.declared.node.Key.{Key}
use Rattle.terms.proofs.Walks.{every-twice}
use Rattle.building.specs.Keys.{key_pair}
use Rattle.building.proofs.wider.has_keys.Goals as goal

pub returns : goal.returns
returns c =
    let n = length (view_in c.args.tables.now).trees in
    all_from_yields_List (λ (k : Key). below n k.by.0) _ _ c.all.result c.all.ensures.ran (YieldsList-from_slice _ c.iter.ensures.rest) (λ x b q k. search (rules, tests))
    ∙ every-twice (below n) (λ k. k.0) key_pair c.args.keys.now
