use Rattle.std.proofs.Common.{length}
use Rattle.rewriting.specs.Extracting.{by_place}
use Rattle.tables.specs.Holding.{fields_at}
use Rattle.recovering.proofs.Listing.{Partly}
use Rattle.recovering.proofs.renaming.push_by_place.Given as goal

abbrev pub invariant-loop-name : goal.invariant-loop-name
invariant-loop-name l = Partly l.fn.tables (by_place (fields_at l.fn.tables l.fn.old.0) (fields_at l.fn.tables l.fn.p.0)) l.tables (length l.yielded) l.made
