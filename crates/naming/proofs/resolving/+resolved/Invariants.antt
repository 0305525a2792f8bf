use Rattle.std.proofs.Common.{◌≡◌, ◌++◌, map, drop}
use Rattle.plan.specs.Fields.{every, resolved}
use Rattle.plan.specs.Model.{expr_in}
use Rattle.entries.specs.Entries.{entry_number}
use Rattle.entries.specs.Spans.{stored_field}
use Rattle.terms.specs.Views.{view_of}
use Rattle.naming.proofs.resolving.+resolved.Given as goal

abbrev pub decreases-resolved : goal.decreases-resolved
decreases-resolved l = l.e.0

abbrev pub invariant-loop-entry : goal.invariant-loop-entry
invariant-loop-entry l =
    let fs = map (stored_field (view_of l.terms).bytes) l.left ++ map (stored_field (view_of l.terms).bytes) l.right in
    let args = map (expr_in (view_of l.terms).trees) (map entry_number l.listed) in
    every (resolved fs) args ≡ every (resolved fs) (drop l.entry-index args)
