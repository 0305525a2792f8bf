use Rattle.std.proofs.Common.{◌≡◌, take}
use Rattle.std.specs.List.{flat_map}
use Rattle.numbering.specs.Own.{capped, own_names}
use Rattle.terms.specs.Views.{view_of}
use Rattle.numbering.proofs.next.highest_in_exprs.Given as goal

abbrev pub invariant-loop-e : goal.invariant-loop-e
invariant-loop-e l = l.highest ≡ capped (flat_map own_names (take l.e (view_of l.terms).trees))
