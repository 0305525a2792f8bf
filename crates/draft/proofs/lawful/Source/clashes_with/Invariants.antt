use Rattle.std.proofs.Common.{◌≡◌, map, drop}
use Rattle.plan.specs.Fields.{any, clash}
use Rattle.draft.specs.Sources.{field_from}
use Rattle.draft.proofs.lawful.Source.clashes_with.Given as goal

abbrev pub invariant-loop-other : goal.invariant-loop-other
invariant-loop-other l =
    any (clash (field_from l.self l.field)) (map (field_from l.self) l.others)
    ≡ any (clash (field_from l.self l.field)) (map (field_from l.self) (drop l.other-index l.others))
