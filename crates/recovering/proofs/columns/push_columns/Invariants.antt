use Rattle.rows.specs.Standing.{refs}
use Rattle.tables.specs.Holding.{fields_at}
use Rattle.recovering.proofs.Listing.{Partly}
use Rattle.recovering.proofs.columns.push_columns.Given as goal

abbrev pub invariant-loop-field : goal.invariant-loop-field
invariant-loop-field l = Partly l.fn.tables (refs (fields_at l.fn.tables l.fn.p.0)) l.tables l.field-index l.made
