use Rattle.std.proofs.Common.{◌≡◌, suc, ◌+◌, ◌≤◌, false, not, ◌||◌, length, None, Err, inl, inr, refl, sym, ap, ap₂, ◌∙◌, subst, arith, rules}
use Rattle.plan.specs.Model.{expr_in}
use Rattle.plan.specs.Terms.{references_of}
use Rattle.rewriting.specs.Routing.{add_extracted, needs}
use Rattle.routing.specs.Sides.{side_of}
use Rattle.tables.specs.Holding.{model_of, view_in}
use Rattle.terms.specs.Views.{tree_of, view_of}
use Rattle.extracting.specs.Extractors.{Inside, extractor_of, needs_of}
use Rattle.extracting.specs.Walking.{Answered}
use Rattle.extracting.proofs.Growing.{extractor-stays, tree-stays}
use Rattle.extracting.proofs.Numbers.{numbered-more}
use Rattle.extracting.proofs.extractor.Extractor.take_first.Goals as goal

pub returns-then-not-is_countable-clause-answer : goal.returns-then-not-is_countable-clause-answer
unfolding add_extracted
returns-then-not-is_countable-clause-answer c = inr (refl, ap (λ b. false || not b) (sym c.if-not-is_countable.ensures))

pub returns-in_err-column-clause-answer : goal.returns-in_err-column-clause-answer
unfolding add_extracted
returns-in_err-column-clause-answer c =
    let t = c.args.tables.now in
    let v = view_in t in
    let w = add_extracted (side_of c.args.side) (expr_in v.trees c.args.e.0) (extractor_of v c.args.self.now) None in
    let e : c.from_residual.result ≡ Err c.in_err-column.field-0.0 = search rules in
    subst (λ r. Answered t w r c.alias_column.new.tables c.args.self.now) (sym e) (inl (c.in_err-column.ensures.answer, refl))

pub enter-requires-clause-inside : goal.enter-requires-clause-inside
enter-requires-clause-inside c =
    subst (λ m. Inside (view_of m) c.args.self.now) (sym c.terms.ensures) (extractor-stays c.args.tables.now c.alias_column.new.tables c.in_ok-column.ensures.answer.grows c.args.self.now c.requires.inside).1

pub enter-requires-clause-needed : goal.enter-requires-clause-needed
unfolding add_extracted
enter-requires-clause-needed c =
    let t = c.args.tables.now in
    let u = c.alias_column.new.tables in
    let s = side_of c.args.side in
    let x = c.args.self.now in
    let g = c.in_ok-column.ensures.answer.grows in
    let k = extractor-stays t u g x c.requires.inside in
    let n = ap₂ (λ y ns. length (needs s (references_of y) ns)) (tree-stays t u g c.args.e.0 c.requires.present) (ap (λ h. h.needed) k.0) in
    subst (λ m. length (needs s (references_of (tree_of m c.args.e.0)) (needs_of (view_of m) x)) ≤ 256) (sym c.terms.ensures) (omega (arith, c.requires.needed, n))

pub returns-clause-answer : goal.returns-clause-answer
unfolding add_extracted
returns-clause-answer c =
    let t = c.args.tables.now in
    let u = c.alias_column.new.tables in
    let s = side_of c.args.side in
    let x = c.args.self.now in
    let y = c.enter.new.self in
    let b = c.in_ok-column.ensures.answer in
    let k = extractor-stays t u b.grows x c.requires.inside in
    let value = subst (λ m. extractor_of (view_of m) y ≡ (add_extracted s (tree_of m c.args.e.0) (extractor_of (view_of m) x) None).1) c.terms.ensures c.enter.ensures.value in
    record {
      present = b.present;
      tree = b.tree;
      extractor = value ∙ ap₂ (λ d g. (add_extracted s d g None).1) (tree-stays t u b.grows c.args.e.0 c.requires.present) k.0;
      inside = subst (λ m. Inside (view_of m) y) c.terms.ensures c.enter.ensures.inside;
      few = omega (arith, c.requires.few, c.enter.ensures.entries, c.in_ok-column.ensures.last, b.present);
      grows = b.grows;
      numbers = numbered-more (model_of t) (model_of u) (x.next + 1) (suc x.next) (omega arith) b.numbers;
      spent = b.spent;
    }
