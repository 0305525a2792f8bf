use Rattle.std.proofs.Common.{◌≡◌, drop}
use Rattle.plan.specs.Fields.{any}
use Rattle.plan.specs.Functions.{null_keeping}
use Rattle.terms.specs.Views.{view_of}
use Rattle.terms.proofs.Walks.{entry_trees}
use Rattle.routing.proofs.keeping.+null_keeping.Given as goal

abbrev pub decreases-null_keeping : goal.decreases-null_keeping
decreases-null_keeping l = l.e.0

-- what is asked of all arguments is asked of those that are left
abbrev pub invariant-loop-entry : goal.invariant-loop-entry
invariant-loop-entry l =
    let p = null_keeping (view_of l.terms).functions in
    let ts = entry_trees l.terms l.entry-items in
    any p ts ≡ any p (drop l.entry-index ts)
