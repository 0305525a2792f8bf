use Rattle.std.proofs.Common.{◌+◌, refl, ap, ◌∙◌}
use Rattle.rewriting.specs.Generated.{countable}
use Rattle.terms.specs.Views.{tree_of, view_of}
use Rattle.extracting.specs.declared.extractor.Extracted.{Extracted}
use Rattle.extracting.proofs.Entered.{entries-earlier, entries-inside}
use Rattle.extracting.proofs.Needs.{entered_is}
use Rattle.extracting.proofs.extractor.Extractor.enter.Goals as goal

pub returns-clause-value : goal.returns-clause-value
returns-clause-value c =
    let m = c.args.terms.now in
    let x = c.args.self.now in
    let y = c.needs.new.self in
    let next = ap (λ g. g.next) c.needs.ensures.value in
    let d : Extracted = record { side = c.args.side; inner = c.args.e; alias = y.next } in
    entered_is (view_of m) x y d (tree_of m c.args.e.0) c.push.new.self y.needed _ refl next c.needs.ensures.value c.needs.ensures.entries c.push.ensures refl (ap (λ n. n + 1) next) c.requires.number

pub returns-clause-inside : goal.returns-clause-inside
returns-clause-inside c =
    let v = view_of c.args.terms.now in
    let y = c.needs.new.self in
    let d : Extracted = record { side = c.args.side; inner = c.args.e; alias = y.next } in
    let inside = c.needs.ensures.inside in
    record {
      entries = entries-inside v y d c.push.new.self inside c.push.ensures refl c.requires.present (ap (λ g. countable g.next) c.needs.ensures.value ∙ c.requires.number);
      needed = inside.needed;
      earlier = entries-earlier v y d c.push.new.self inside c.push.ensures refl;
    }
