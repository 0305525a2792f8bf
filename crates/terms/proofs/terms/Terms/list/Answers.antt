use Rattle.std.proofs.Common.{[], map, length, sym, refl, rules, ap, ◌∙◌, arith, length-append}
use Rattle.std.proofs.lemmas.List.{append-nil, length-map}
use Rattle.table.proofs.Pushes.{pushed-map}
use Rattle.lexicon.specs.Lexicon.{functions_of, text_of}
use Rattle.terms.specs.Views.{view_of}
use Rattle.lexicon.proofs.Begun.{at-once}
use Rattle.terms.proofs.Facts.{facts-of, facts-grown, same_view}
use Rattle.terms.proofs.Trees.{trees-grown}
use Rattle.terms.proofs.terms.Terms.list.Goals as goal

pub invariant_of-self : goal.invariant_of-self
invariant_of-self g c =
    let t = c.args.self.now in
    let grew = pushed-map _ g.T.Listed.entry (λ x d made. search rules) c.args.items.now _ _ c.push_each.ensures in
    let bs = text_of t.lexicon in
    let k = facts-grown (functions_of t.lexicon) _ bs [] bs t.entries (map g.T.Listed.entry c.args.items.now) _ t.exprs refl (sym (append-nil bs)) grew (facts-of t) in
    let added = map g.T.Listed.entry c.args.items.now in
    record { few = t.few; few_entries = omega (arith, ap length grew, length-append t.entries added, length-map c.args.items.now g.T.Listed.entry, c.requires); sound = k.is-sound; accepted = k.is-accepted; sizes = k.has-sizes; widths = k.has-widths }

pub returns-clause-view : goal.returns-clause-view
returns-clause-view g c =
    let t = c.args.self.now in
    let grew = pushed-map _ g.T.Listed.entry (λ x d made. search rules) c.args.items.now _ _ c.push_each.ensures in
    let bs = text_of t.lexicon in
    let es = t.entries in
    let n = map g.T.Listed.entry c.args.items.now in
    let k = trees-grown bs [] bs es n _ t.exprs (sym (append-nil bs)) grew t.sound in
    same_view (view_of t) (functions_of t.lexicon) (view_of t).trees [] bs [] es n _ _ _ _ refl refl (k.1 ∙ sym (append-nil (view_of t).trees)) (sym (append-nil bs)) grew

pub returns-clause-begins : goal.returns-clause-begins
returns-clause-begins g c =
    let t = c.args.self.now in
    let grew = pushed-map _ g.T.Listed.entry (λ x d made. search rules) c.args.items.now _ _ c.push_each.ensures in
    record { lexicon = record { functions = refl; text = at-once t.lexicon.text }; exprs = at-once t.exprs; entries = record { more = map g.T.Listed.entry c.args.items.now; is = grew } }
