use Rattle.std.proofs.Common.{◌≡◌, take}
use Rattle.std.specs.List.{flat_map}
use Rattle.numbering.specs.Own.{capped, node_own}
use Rattle.tables.specs.Holding.{nodes_of, view_in}
use Rattle.numbering.proofs.next.highest_in_nodes.Given as goal

abbrev pub invariant-loop-i : goal.invariant-loop-i
invariant-loop-i l = l.highest ≡ capped (flat_map (node_own (view_in l.tables).functions) (take l.i (nodes_of l.tables)))
