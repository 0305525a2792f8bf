use Rattle.std.proofs.Common.{drop}
use Rattle.plan.specs.Model.{exprs_in}
use Rattle.rewriting.specs.Routing.{needed_of}
use Rattle.routing.specs.Sides.{side_of}
use Rattle.tables.specs.Holding.{fields_at, view_in}
use Rattle.terms.specs.Views.{numbers_of}
use Rattle.extracting.specs.Extractors.{needs_of}
use Rattle.merging.specs.Merging.{columns_in, needed_at}
use Rattle.merging.specs.Replacing.{map_of}
use Rattle.merging.proofs.Columning.{Columning}
use Rattle.merging.proofs.columns.add_columns.Given as goal

-- the columns so far are merged
abbrev pub invariant-loop-column : goal.invariant-loop-column
invariant-loop-column l =
    let t = l.tables in
    let v = view_in t in
    let ins = fields_at t l.under.0 in
    Columning v v.functions ins l.replacing (columns_in v.functions ins (map_of v l.replacing) (needed_at v l.extractor l.side) (exprs_in v.trees (numbers_of l.fn.list))) (needed_of (side_of l.side) (drop l.column-index (needs_of v l.extractor))) l.list
