use Rattle.std.proofs.Common.{◌≡◌, drop}
use Rattle.plan.specs.Terms.{arguments, references_of_all}
use Rattle.rewriting.specs.Routing.{needs}
use Rattle.routing.specs.Sides.{side_of}
use Rattle.terms.specs.Views.{view_of}
use Rattle.terms.proofs.Walks.{entry_trees}
use Rattle.extracting.specs.Extractors.{Inside, needs_of}
use Rattle.extracting.proofs.extractor.Extractor.+needs.Given as goal

abbrev pub decreases-needs : goal.decreases-needs
decreases-needs l = l.e.0

-- of what is needed in the end, the columns of the arguments that are left are still to be added
abbrev pub invariant-loop-entry : goal.invariant-loop-entry
invariant-loop-entry l =
    let v = view_of l.terms in
    let ts = entry_trees l.terms l.entry-items in
    let s = side_of l.side in
    record {
      left : needs s (references_of_all (arguments ts)) (needs_of v l.fn.self) ≡ needs s (references_of_all (arguments (drop l.entry-index ts))) (needs_of v l.self);
      entries : l.self.entries ≡ l.fn.self.entries;
      next : l.self.next ≡ l.fn.self.next;
      is_new : l.self.is_new ≡ l.fn.self.is_new;
      inside : Inside v l.self;
    }
