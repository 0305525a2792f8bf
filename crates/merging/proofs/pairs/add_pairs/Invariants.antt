use Rattle.std.proofs.Common.{drop, map}
use Rattle.plan.specs.Model.{exprs_in}
use Rattle.rewriting.specs.Outlay.{list_space}
use Rattle.rewriting.specs.Routing.{pairs_of}
use Rattle.routing.specs.Sides.{side_of}
use Rattle.stepping.specs.Lists.{at_side}
use Rattle.tables.specs.Holding.{view_in}
use Rattle.terms.specs.Views.{numbers_of}
use Rattle.extracting.specs.Extractors.{entries_of}
use Rattle.merging.specs.Merging.{pair_in, pairs_in}
use Rattle.merging.specs.Replacing.{map_of}
use Rattle.merging.proofs.Gathering.{Gathering}
use Rattle.merging.proofs.pairs.add_pairs.Given as goal

-- the pairs so far are merged
abbrev pub invariant-loop-entry : goal.invariant-loop-entry
invariant-loop-entry l =
    let t = l.fn.tables in
    let v = view_in t in
    let m = map_of v l.replacing in
    let ps = at_side v l.extractor l.side in
    Gathering t l.tables l.replacing (list_space (map (pair_in m) ps)) l.extractor.next (pairs_in m ps (exprs_in v.trees (numbers_of l.fn.list))) (pairs_of (side_of l.side) (drop l.entry-index (entries_of v l.extractor))) l.list
