use Rattle.std.proofs.Common.{◌≡◌, true, map, length}
use Rattle.plan.specs.Fields.{every, lawful}
use Rattle.draft.specs.Sources.{field_from, has_field}
use Rattle.draft.proofs.lawful.Source.is_lawful.Given as goal

abbrev pub invariant-loop-field : goal.invariant-loop-field
invariant-loop-field l =
    (every (has_field l.self) l.rest ≡ true)
    × (lawful (map (field_from l.self) l.draft) ≡ lawful (map (field_from l.self) l.rest))

abbrev pub decreases-loop-field : goal.decreases-loop-field
decreases-loop-field l = length l.rest
