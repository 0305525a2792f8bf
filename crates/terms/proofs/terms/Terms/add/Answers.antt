use Rattle.std.proofs.Common.{◌≡◌, true, [], length, sym, refl, ap, subst, arith}
use Rattle.std.proofs.lemmas.List.{append-nil, length_push}
use Rattle.terms.specs.Build.{inside_node}
use Rattle.lexicon.specs.Lexicon.{functions_of, text_of}
use Rattle.terms.specs.Views.{view_of}
use Rattle.entries.specs.declared.node.ExprRecord.{ExprRecord}
use Rattle.terms.proofs.Facts.{facts-of, facts-pushed, same_view, counted}
use Rattle.terms.proofs.Trees.{trees-push}
use Rattle.terms.proofs.terms.Terms.add.Goals as goal

pub invariant_of-self : goal.invariant_of-self
invariant_of-self c =
    let t = c.args.self.now in
    let bs = text_of t.lexicon in
    let es = t.entries in
    let r : ExprRecord = record { node = c.args.node; size = c.args.size; width = c.args.width } in
    let k = facts-pushed (functions_of t.lexicon) bs es t.exprs _ r c.push.ensures (facts-of t) (subst (λ j. inside_node bs es j c.args.node ≡ true) (counted t) c.requires.inside) c.requires.accepted c.requires.size c.requires.width in
    record { few = omega (arith, ap length c.push.ensures, length_push t.exprs r, counted t, c.requires.room); few_entries = t.few_entries; sound = k.is-sound; accepted = k.is-accepted; sizes = k.has-sizes; widths = k.has-widths }

pub returns-clause-view : goal.returns-clause-view
returns-clause-view c =
    let t = c.args.self.now in
    let bs = text_of t.lexicon in
    let es = t.entries in
    same_view (view_of t) (functions_of t.lexicon) (view_of t).trees _ bs [] es [] _ _ _ _ refl refl (trees-push bs es t.exprs _ _ c.push.ensures) (sym (append-nil bs)) (sym (append-nil es))
