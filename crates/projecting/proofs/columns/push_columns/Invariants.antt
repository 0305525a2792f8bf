use Rattle.std.proofs.Common.{drop}
use Rattle.rows.specs.Standing.{refs}
use Rattle.tables.specs.Begun.{TablesBegin}
use Rattle.projecting.proofs.Listing.{Partly}
use Rattle.projecting.proofs.columns.push_columns.Given as goal
use Rattle.projecting.specs.Onto.{fields_in}

-- the references to the fields that are left are still to be made
abbrev pub invariant-loop-field : goal.invariant-loop-field
invariant-loop-field l =
    let t = l.fn.tables in
    let es = refs (fields_in t l.fields) in
    record {
      partly : Partly t es 0 l.fn.list l.tables (drop l.field-index es) l.list;
      begins : TablesBegin t l.tables;
    }
