use Rattle.std.proofs.Common.{map, length, ◌∙◌, rules, tests}
use Rattle.std.proofs.lemmas.Iterator.{YieldsList-from_slice}
use Rattle.std.proofs.lemmas.Iterator.Search.{any_from_yields_List}
use Rattle.plan.specs.Functions.{is_total}
use Rattle.plan.specs.Model.{expr_in}
use Rattle.tables.specs.Holding.{view_in}
use Rattle.stored.specs.declared.node.Key.{Key}
use Rattle.terms.proofs.Walks.{any-moved, any-twice, serves_low}
use Rattle.building.specs.Keys.{key_pair, key_pairs}
use Rattle.building.proofs.SortFacts.{keys_below}
use Rattle.building.proofs.wider.any_key_total.Goals as goal

pub any-requires-clause-callable : goal.any-requires-clause-callable
any-requires-clause-callable c =
    let n = length (view_in c.args.tables.now).trees in
    let keys = c.args.keys.now in
    serves_low (λ k. k.by.0) n (YieldsList-from_slice keys c.iter.ensures.rest) (keys_below n keys c.requires) (λ x q k. search rules) (λ x h. search rules)

pub returns : goal.returns
returns c =
    let v = view_in c.args.tables.now in
    any_from_yields_List (λ (k : Key). is_total v.functions (expr_in v.trees k.by.0)) _ _ c.any.result c.any.ensures.ran (YieldsList-from_slice _ c.iter.ensures.rest) (λ x b q k. search (rules, tests))
    ∙ any-twice (λ i. is_total v.functions (expr_in v.trees i)) (λ k. k.0) key_pair c.args.keys.now
    ∙ any-moved (is_total v.functions) (expr_in v.trees) (map (λ k. k.0) (key_pairs c.args.keys.now))
