use Rattle.std.proofs.Common.{◌≡◌, drop, map}
use Rattle.plan.specs.Fields.{every}
use Rattle.rewriting.specs.Routing.{has_all_column_refs, schema_columns}
use Rattle.entries.specs.Spans.{stored_field}
use Rattle.terms.specs.Views.{view_of}
use Rattle.terms.proofs.Walks.{entry_trees}
use Rattle.routing.proofs.owning.+has_all_column_refs.Given as goal

abbrev pub decreases-has_all_column_refs : goal.decreases-has_all_column_refs
decreases-has_all_column_refs l = l.e.0

-- what is asked of all arguments is asked of those that are left
abbrev pub invariant-loop-entry : goal.invariant-loop-entry
invariant-loop-entry l =
    let p = has_all_column_refs (schema_columns (map (stored_field (view_of l.terms).bytes) l.fields)) in
    let ts = entry_trees l.terms l.entry-items in
    every p ts ≡ every p (drop l.entry-index ts)
