use Rattle.std.proofs.Common.{◌++◌, map, length, ◌∙◌, rules}
use Rattle.std.proofs.lemmas.Iterator.{YieldsList-from_slice}
use Rattle.std.proofs.lemmas.Iterator.Search.{all_from_yields_List}
use Rattle.plan.specs.Fields.{resolved}
use Rattle.plan.specs.Model.{expr_in}
use Rattle.entries.specs.Spans.{stored_field}
use Rattle.tables.specs.Holding.{view_in}
use Rattle.terms.proofs.Walks.{every-twice, serves_low}
use Rattle.asking.proofs.asking.all_resolved.Goals as goal

pub all-requires-clause-callable : goal.all-requires-clause-callable
all-requires-clause-callable c =
    let n = length (view_in c.args.tables.now).trees in
    let ids = c.args.ids.now in
    serves_low (λ y. y.0) n (YieldsList-from_slice ids cc) c.requires.present (λ x q k. search rules) (λ x h. search rules)

pub returns : goal.returns
returns c =
    let v = view_in c.args.tables.now in
    let p = resolved (map (stored_field v.bytes) c.args.left.now ++ map (stored_field v.bytes) c.args.right.now) in
    let ids = c.args.ids.now in
    all_from_yields_List (λ e. p (expr_in v.trees e.0)) _ _ _ c.all.ensures.ran (YieldsList-from_slice ids cc) (λ x b q k. search rules)
    ∙ every-twice p (expr_in v.trees) (λ e. e.0) ids
