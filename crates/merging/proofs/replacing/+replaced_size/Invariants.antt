use Rattle.std.proofs.Common.{◌≡◌, ◌+◌, ◌≤◌, min, drop}
use Rattle.terms.proofs.Walks.{entry_trees}
use Rattle.terms.specs.Views.{view_of}
use Rattle.merging.specs.Replacing.{map_of}
use Rattle.merging.proofs.Replaced.{sizes}
use Rattle.merging.proofs.replacing.+replaced_size.Given as goal

abbrev pub decreases-replaced_size : goal.decreases-replaced_size
decreases-replaced_size l = l.e.0

-- the size so far, and the arguments that are left, come to the size of all
abbrev pub invariant-loop-entry : goal.invariant-loop-entry
invariant-loop-entry l =
    let m = map_of (view_of l.terms) l.map in
    let ts = entry_trees l.terms l.entry-items in
    record {
      sum : min (sizes m ts + 1) 257 ≡ min (l.size + sizes m (drop l.entry-index ts)) 257;
      bound : l.size ≤ 257;
    }
