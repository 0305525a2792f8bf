use Rattle.std.proofs.Common.{◌≡◌, map, take, length}
use Rattle.plan.specs.Functions.{placement_of}
use Rattle.routing.specs.Placing.{named}
use Rattle.terms.specs.Views.{view_of}
use Rattle.terms.proofs.Walks.{entry_trees}
use Rattle.routing.proofs.placement.+placement.Given as goal

abbrev pub decreases-placement : goal.decreases-placement
decreases-placement l = l.e.0

abbrev pub invariant-loop-entry : goal.invariant-loop-entry
invariant-loop-entry l =
    (length l.placements ≡ l.entry-index)
    × (map named l.placements ≡ map (placement_of (view_of l.terms).functions) (take l.entry-index (entry_trees l.terms l.entry-items)))
