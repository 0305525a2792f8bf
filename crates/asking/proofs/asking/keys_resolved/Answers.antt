use Rattle.std.proofs.Common.{length, ◌∙◌, rules}
use Rattle.std.proofs.lemmas.Iterator.{YieldsList-from_slice}
use Rattle.std.proofs.lemmas.Iterator.Search.{all_from_yields_List}
use Rattle.plan.specs.Fields.{resolved}
use Rattle.plan.specs.Model.{expr_in}
use Rattle.tables.specs.Holding.{view_in, fields_at}
use Rattle.terms.proofs.Walks.{every-twice, serves_low}
use Rattle.asking.proofs.asking.keys_resolved.Goals as goal

pub all-requires-clause-callable : goal.all-requires-clause-callable
all-requires-clause-callable c =
    let n = length (view_in c.args.tables.now).trees in
    let keys = c.args.keys.now in
    serves_low (λ y. y.by.0) n (YieldsList-from_slice keys cc) c.requires.present (λ x q k. search rules) (λ x h. search rules)

pub returns : goal.returns
returns c =
    let ts = (view_in c.args.tables.now).trees in
    let p = resolved (fields_at c.args.tables.now c.args.input.0) in
    let keys = c.args.keys.now in
    all_from_yields_List (λ k. p (expr_in ts k.by.0)) _ _ _ c.all.ensures.ran (YieldsList-from_slice keys cc) (λ x b q k. search rules)
    ∙ every-twice p (expr_in ts) (λ k. k.by.0) keys
