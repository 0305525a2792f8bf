use Rattle.std.proofs.Common.{◌<◌, ltb, length, get_or, sym, ap, ◌∙◌, arith}
use Rattle.std.proofs.lemmas.Bool.{and_parts}
use Rattle.lexicon.proofs.Frames.{every-at}
use Rattle.rewriting.specs.Generated.{countable}
use Rattle.routing.specs.declared.owning.Side.TheVariants.{First}
use Rattle.terms.specs.Views.{tree_of, view_of}
use Rattle.extracting.specs.Extractors.{entry_in}
use Rattle.extracting.specs.declared.extractor.Extracted.{Extracted}
use Rattle.extracting.proofs.Entered.{found, none_left, passed}
use Rattle.extracting.proofs.extractor.Extractor.entered.Goals as goal

abbrev blank : Extracted
blank = record { side = First; inner = record { 0 = 0 }; alias = 0 }

pub returns-then-same_expr-clause-value : goal.returns-then-same_expr-clause-value
returns-then-same_expr-clause-value c =
    let xs = c.args.self.now.entries in
    let i = c.loop-held.held-index in
    let e = c.as_slice-held-items.ensures in
    let lt : i < length xs = omega (arith, c.loop-held-test.true, ap length e) in
    sym (c.loop-held.invariant ∙ found (view_of c.args.terms.now) (tree_of c.args.terms.now c.args.e.0) xs i blank _ lt (ap (λ l. get_or l i blank) e) (sym c.if-same_expr.ensures))

pub loop-held-preserved : goal.loop-held-preserved
loop-held-preserved c =
    let xs = c.args.self.now.entries in
    let i = c.loop-held.held-index in
    let e = c.as_slice-held-items.ensures in
    let lt : i < length xs = omega (arith, c.loop-held-test.true, ap length e) in
    c.loop-held.invariant ∙ passed (view_of c.args.terms.now) (tree_of c.args.terms.now c.args.e.0) xs i blank _ lt (ap (λ l. get_or l i blank) e) (sym c.if-same_expr.ensures)

pub returns-clause-value : goal.returns-clause-value
returns-clause-value c =
    sym (c.loop-held.invariant ∙ none_left (view_of c.args.terms.now) (tree_of c.args.terms.now c.args.e.0) c.args.self.now.entries c.loop-held.held-index (omega (arith, c.loop-held-test.false, ap length c.as_slice-held-items.ensures)))

pub returns-then-same_expr-clause-number : goal.returns-then-same_expr-clause-number
returns-then-same_expr-clause-number c =
    let v = view_of c.args.terms.now in
    let xs = c.args.self.now.entries in
    let i = c.loop-held.held-index in
    let e = c.as_slice-held-items.ensures in
    let lt : i < length xs = omega (arith, c.loop-held-test.true, ap length e) in
    let x = get_or xs i blank in
    ap (λ l. countable (get_or l i blank).alias) e ∙ (and_parts (ltb x.inner.0 (length v.trees)) (countable x.alias) (every-at (entry_in v) xs i blank lt c.requires.inside.entries)).1
