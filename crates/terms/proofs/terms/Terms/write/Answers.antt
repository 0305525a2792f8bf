use Rattle.std.proofs.Common.{[], sym, refl, ◌∙◌}
use Rattle.std.proofs.lemmas.List.{append-nil}
use Rattle.lexicon.specs.Lexicon.{functions_of, text_of}
use Rattle.terms.specs.Views.{view_of}
use Rattle.terms.proofs.Facts.{facts-of, facts-grown, same_view}
use Rattle.terms.proofs.Trees.{trees-grown}
use Rattle.terms.proofs.terms.Terms.write.Goals as goal

pub invariant_of-self : goal.invariant_of-self
invariant_of-self c =
    let t = c.args.self.now in
    let es = t.entries in
    let k = facts-grown (functions_of t.lexicon) _ (text_of t.lexicon) c.args.bytes.now _ es [] es t.exprs c.write.ensures.functions c.write.ensures.text (sym (append-nil es)) (facts-of t) in
    record { few = t.few; few_entries = t.few_entries; sound = k.is-sound; accepted = k.is-accepted; sizes = k.has-sizes; widths = k.has-widths }

pub returns-clause-view : goal.returns-clause-view
returns-clause-view c =
    let t = c.args.self.now in
    let bs = text_of t.lexicon in
    let es = t.entries in
    let n = c.args.bytes.now in
    let g = trees-grown bs n _ es [] es t.exprs c.write.ensures.text (sym (append-nil es)) t.sound in
    same_view (view_of t) (functions_of t.lexicon) (view_of t).trees [] bs n es [] _ _ _ _ refl c.write.ensures.functions (g.1 ∙ sym (append-nil (view_of t).trees)) c.write.ensures.text (sym (append-nil es))
