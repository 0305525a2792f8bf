use Rattle.std.proofs.Common.{◌≡◌, true, sym, ap, ◌∙◌, subst, arith}
use Rattle.terms.specs.Build.{inside}
use Rattle.lexicon.specs.Lexicon.{text_of}
use Rattle.terms.specs.Views.{tree_for}
use Rattle.terms.proofs.Facts.{counted}
use Rattle.terms.proofs.Trees.{tree-at}
use Rattle.terms.proofs.terms.Terms.node.Goals as goal

pub returns : goal.returns
returns c =
    let t = c.args.self.now in
    let x = c.get.result in
    let e = sym (c.get.ensures x) in
    let a = tree-at (text_of t.lexicon) t.entries t.exprs c.args.e.0 x t.sound (omega (arith, counted t, c.requires)) in
    record { tree = a.0 ∙ ap (λ r. tree_for t r.node) e; inside = subst (λ r. inside (text_of t.lexicon) t.entries c.args.e.0 r ≡ true) e a.1 }
