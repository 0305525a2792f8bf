use Rattle.std.proofs.Common.{◌≡◌, ◌≤◌, map, take, count_by}
use Rattle.plan.specs.Fields.{named}
use Rattle.entries.specs.Spans.{stored_field}
use Rattle.names.specs.Spans.{word}
use Rattle.terms.specs.Views.{view_of}
use Rattle.naming.proofs.resolving.count_named.Given as goal

abbrev pub invariant-loop-i : goal.invariant-loop-i
invariant-loop-i l =
    (l.count ≡ count_by (named (word (view_of l.terms).bytes l.name)) (take l.i (map (stored_field (view_of l.terms).bytes) l.fields))) × (l.count ≤ l.i)
