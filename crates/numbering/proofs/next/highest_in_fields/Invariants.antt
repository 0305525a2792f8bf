use Rattle.std.proofs.Common.{◌≡◌, map, take}
use Rattle.std.specs.List.{flat_map}
use Rattle.numbering.proofs.Highest.{one_name}
use Rattle.numbering.specs.Own.{capped}
use Rattle.entries.specs.Spans.{stored_field}
use Rattle.terms.specs.Views.{view_of}
use Rattle.numbering.proofs.next.highest_in_fields.Given as goal

abbrev pub invariant-loop-field : goal.invariant-loop-field
invariant-loop-field l = l.highest ≡ capped (flat_map one_name (take l.field-index (map (stored_field (view_of l.terms).bytes) l.fields)))
