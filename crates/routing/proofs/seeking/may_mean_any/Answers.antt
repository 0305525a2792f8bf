use Rattle.std.proofs.Common.{ap, ◌∙◌, rules, tests}
use Rattle.std.proofs.lemmas.Iterator.{YieldsList-from_slice}
use Rattle.std.proofs.lemmas.Iterator.Adapters.{serves_from_places}
use Rattle.std.proofs.lemmas.Iterator.Search.{any_from_yields_List}
use Rattle.entries.specs.Spans.{stored_field, stored_in}
use Rattle.terms.specs.Views.{view_of}
use Rattle.lexicon.proofs.Frames.{every-at}
use Rattle.rows.specs.Rows.{may_mean}
use Rattle.terms.proofs.Walks.{any-mapped}
use Rattle.routing.proofs.seeking.may_mean_any.Goals as goal

pub any-requires-clause-callable : goal.any-requires-clause-callable
any-requires-clause-callable c =
    let ok = stored_in (view_of c.args.terms.now).bytes in
    let fs = c.args.fields.now in
    serves_from_places (YieldsList-from_slice fs c.iter.ensures.rest) (λ x q r. search (rules, tests)) (λ x k lt e _ _ _ _ _ _ _. (c.requires.reference, ap ok e ∙ every-at ok fs k x.now lt c.requires.stored))

pub returns : goal.returns
returns c =
    let f = stored_field (view_of c.args.terms.now).bytes in
    let r = f c.args.reference in
    let fs = c.args.fields.now in
    any_from_yields_List (λ x. may_mean r (f x)) _ _ _ c.any.ensures.ran (YieldsList-from_slice fs c.iter.ensures.rest) (λ x b q k. search rules) ∙ any-mapped (may_mean r) f fs
