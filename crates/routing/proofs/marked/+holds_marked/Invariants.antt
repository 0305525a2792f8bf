use Rattle.std.proofs.Common.{◌≡◌, drop}
use Rattle.plan.specs.Fields.{any}
use Rattle.rewriting.specs.Routing.{holds_marked}
use Rattle.terms.specs.Views.{view_of}
use Rattle.terms.proofs.Walks.{entry_trees}
use Rattle.routing.proofs.marked.+holds_marked.Given as goal

abbrev pub decreases-holds_marked : goal.decreases-holds_marked
decreases-holds_marked l = l.e.0

-- what is asked of all arguments is asked of those that are left
abbrev pub invariant-loop-entry : goal.invariant-loop-entry
invariant-loop-entry l =
    let p = holds_marked (view_of l.terms).functions in
    let ts = entry_trees l.terms l.entry-items in
    any p ts ≡ any p (drop l.entry-index ts)
