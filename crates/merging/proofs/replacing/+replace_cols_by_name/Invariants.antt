use Rattle.std.proofs.Common.{map, drop}
use Rattle.plan.specs.Model.{exprs_in}
use Rattle.tables.specs.Holding.{view_in}
use Rattle.terms.specs.Views.{numbers_of}
use Rattle.merging.specs.Replacing.{map_of}
use Rattle.merging.proofs.Partly.{Partly}
use Rattle.merging.proofs.Replaced.{rep}
use Rattle.merging.proofs.replacing.+replace_cols_by_name.Given as goal

abbrev pub decreases-replace_cols_by_name : goal.decreases-replace_cols_by_name
decreases-replace_cols_by_name l = l.e.0

-- the arguments so far are done, over the tables as they are now
abbrev pub invariant-loop-argument : goal.invariant-loop-argument
invariant-loop-argument l =
    let t = l.fn.tables in
    let m = map_of (view_in t) l.map in
    let ts = exprs_in (view_in t).trees (numbers_of l.argument-items) in
    Partly t l.tables (map (rep m) ts) (map (rep m) (drop l.argument-index ts)) l.argument-items l.made l.argument-index l.same
