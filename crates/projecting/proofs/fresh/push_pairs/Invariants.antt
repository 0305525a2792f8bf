use Rattle.std.proofs.Common.{map, drop}
use Rattle.rewriting.specs.Extracting.{aliased}
use Rattle.rewriting.specs.Routing.{pairs_of}
use Rattle.routing.specs.Sides.{side_of}
use Rattle.tables.specs.Begun.{TablesBegin}
use Rattle.tables.specs.Holding.{view_in}
use Rattle.extracting.specs.Extractors.{entry_of}
use Rattle.projecting.proofs.Listing.{Partly}
use Rattle.projecting.proofs.fresh.push_pairs.Given as goal
use Rattle.projecting.specs.Freshly.{trees_for}

-- those of the entries that are left are still to be made
abbrev pub invariant-loop-entry : goal.invariant-loop-entry
invariant-loop-entry l =
    let t = l.fn.tables in
    let v = view_in t in
    record {
      partly : Partly t (trees_for v l.extractor l.side) l.extractor.next l.fn.list l.tables (map aliased (pairs_of (side_of l.side) (drop l.entry-index (map (entry_of v) l.extractor.entries)))) l.list;
      begins : TablesBegin t l.tables;
    }
