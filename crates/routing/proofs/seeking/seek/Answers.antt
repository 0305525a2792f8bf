use Rattle.std.proofs.Common.{length, ap, ◌∙◌, rules, tests}
use Rattle.std.specs.Option.{unwrap_or}
use Rattle.std.proofs.lemmas.Iterator.{YieldsList-from_slice}
use Rattle.std.proofs.lemmas.Iterator.Adapters.{serves_from_places}
use Rattle.std.proofs.lemmas.Iterator.Search.{position_from_yields_List}
use Rattle.entries.specs.Spans.{stored_field, stored_in}
use Rattle.terms.specs.Views.{view_of}
use Rattle.entries.specs.declared.node.StoredField.{StoredField}
use Rattle.lexicon.proofs.Frames.{every-at}
use Rattle.rows.specs.Rows.{may_mean}
use Rattle.routing.proofs.Finding.{seek-position}
use Rattle.routing.proofs.seeking.seek.Goals as goal

pub position-requires-clause-callable : goal.position-requires-clause-callable
position-requires-clause-callable c =
    let ok = stored_in (view_of c.args.terms.now).bytes in
    serves_from_places (YieldsList-from_slice c.args.fields.now c.iter.ensures.rest) (λ x q r. search (rules, tests)) (λ x k lt e _ _ _ _ _ _ _. (c.requires.reference, ap ok e ∙ every-at ok c.args.fields.now k x.now lt c.requires.stored))

pub returns : goal.returns
returns c =
    let f = stored_field (view_of c.args.terms.now).bytes in
    let test = λ (x : StoredField). may_mean (f c.args.reference) (f x) in
    c.unwrap_or.ensures
    ∙ ap (λ o. unwrap_or o (length c.args.fields.now)) (position_from_yields_List test _ _ c.position.result c.position.ensures.ran (YieldsList-from_slice _ c.iter.ensures.rest) (λ x b q k. search (rules, tests)))
    ∙ seek-position (f c.args.reference) f c.args.fields.now
