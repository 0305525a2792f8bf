use Rattle.std.proofs.Common.{◌≡◌, Some, None, ap, subst}
use Rattle.plan.specs.Model.{expr_in}
use Rattle.rewriting.specs.Generated.{generated}
use Rattle.rewriting.specs.Routing.{add_extracted, entered}
use Rattle.routing.specs.Sides.{side_of}
use Rattle.tables.specs.Holding.{view_in}
use Rattle.terms.specs.Views.{tree_of, view_of}
use Rattle.extracting.specs.Extractors.{entries_of, extractor_of}
use Rattle.extracting.specs.Walking.{Answered}
use Rattle.extracting.proofs.extractor.Extractor.add_extracted.Goals as goal

pub returns-in-Some-clause-answer : goal.returns-in-Some-clause-answer
unfolding add_extracted
returns-in-Some-clause-answer c =
    let t = c.args.tables.now in
    let v = view_in t in
    let x = c.args.self.now in
    let d = expr_in v.trees c.args.e.0 in
    let held : Some (generated c.in-Some.alias) ≡ entered d (entries_of v x) = subst (λ m. Some (generated c.in-Some.alias) ≡ entered (tree_of m c.args.e.0) (entries_of (view_of m) x)) c.terms.ensures c.in-Some.ensures.value in
    subst (λ w. Answered t w c.take_again.result c.take_again.new.tables c.take_again.new.self) (ap (add_extracted (side_of c.args.side) d (extractor_of v x)) held) c.take_again.ensures.answer

pub returns-in-None-clause-answer : goal.returns-in-None-clause-answer
returns-in-None-clause-answer c =
    let t = c.args.tables.now in
    let v = view_in t in
    let x = c.args.self.now in
    let d = expr_in v.trees c.args.e.0 in
    let held : None ≡ entered d (entries_of v x) = subst (λ m. None ≡ entered (tree_of m c.args.e.0) (entries_of (view_of m) x)) c.terms.ensures c.in-None.ensures.value in
    subst (λ w. Answered t w c.take_first.result c.take_first.new.tables c.take_first.new.self) (ap (add_extracted (side_of c.args.side) d (extractor_of v x)) held) c.take_first.ensures.answer
