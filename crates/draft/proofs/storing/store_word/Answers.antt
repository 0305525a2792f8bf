use Rattle.std.proofs.Common.{◌+◌, sym, refl, ap, ◌∙◌, subst}
use Rattle.std.proofs.lemmas.Bool.{le-leb}
use Rattle.names.specs.Spans.{word}
use Rattle.terms.specs.Views.{view_of}
use Rattle.names.specs.declared.parts.Span.{Span}
use Rattle.draft.specs.Drafts.{word_in, WordAs}
use Rattle.draft.specs.declared.word.Word.TheVariants.{Given}
use Rattle.draft.proofs.Keeping.{word_none, given-part}
use Rattle.draft.proofs.storing.store_word.Goals as goal

pub returns-in-Given-clause-word : goal.returns-in-Given-clause-word
returns-in-Given-clause-word c =
    let v = view_of c.args.terms.now in
    let l = c.args.lent in
    let s = c.in-Given.s in
    let h = ap (word_in v (word v.bytes l.owner) (word v.bytes l.given)) (sym c.in-Given.is) ∙ c.requires.inside in
    let p = given-part v.bytes l.given s c.requires.lent.given h in
    let r : Span = record { start = l.given.start + s.start; len = s.len } in
    subst (λ w. WordAs v l w v r) (sym c.in-Given.is) (word_none v l (Given s) r refl p.0 (le-leb _ _ p.1))
