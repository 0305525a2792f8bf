use Rattle.std.proofs.Common.{◌≡◌, ◌<◌, List, Err, None, length, get_or, refl, sym, ap, subst, arith, rules}
use Rattle.plan.specs.Model.{exprs_in}
use Rattle.routing.specs.declared.owning.Side.TheVariants.{First}
use Rattle.tables.specs.Holding.{fields_at, view_in}
use Rattle.terms.specs.Views.{numbers_of}
use Rattle.extracting.specs.declared.extractor.Needed.{Needed}
use Rattle.merging.specs.Joining.{Listed, ListedBy, WithinBy}
use Rattle.merging.specs.Merging.{AllKnown, columns_at, columns_in, needed_at}
use Rattle.merging.specs.Replacing.{map_of}
use Rattle.merging.proofs.Columning.{column-next, columns-end, known-here, listed-all, refused, turn}
use Rattle.merging.proofs.columns.add_columns.Goals as goal

abbrev blank : Needed
blank = record { side = First; field = record { qualifier = None; name = record { start = 0; len = 0 } } }

pub loop-column-init : goal.loop-column-init
loop-column-init c = record { whole_is = refl; there = c.requires.list; few = c.requires.few; known = c.requires.known }

pub merge_column-requires-clause-known : goal.merge_column-requires-clause-known
merge_column-requires-clause-known c =
    let t = c.args.tables.now in
    let v = view_in t in
    let x = c.args.extractor.now in
    let i = c.loop-column.column-index in
    let e = c.needed-column-items.ensures in
    let lt : i < length x.needed = omega (arith, c.loop-column-test.true, ap length e) in
    subst (λ (l : List Needed). AllKnown (map_of v c.args.replacing).0 (columns_at v c.args.side (get_or l i blank))) (sym e)
    (known-here v v.functions (fields_at t c.args.under.0) c.args.replacing _ _ _ _ c.loop-column.list (column-next v x c.args.side i blank lt) c.loop-column.invariant)

pub returns-in_err-merge_column : goal.returns-in_err-merge_column
returns-in_err-merge_column c =
    let t = c.args.tables.now in
    let v = view_in t in
    let ins = fields_at t c.args.under.0 in
    let x = c.args.extractor.now in
    let i = c.loop-column.column-index in
    let e = c.needed-column-items.ensures in
    let lt : i < length x.needed = omega (arith, c.loop-column-test.true, ap length e) in
    let whole = columns_in v.functions ins (map_of v c.args.replacing) (needed_at v x c.args.side) (exprs_in v.trees (numbers_of c.args.list.now)) in
    let d = c.in_err-merge_column.field-0.0 in
    let is-err : c.from_residual.result ≡ Err d = search rules in
    subst (λ q. WithinBy v whole q c.merge_column.new.list) (sym is-err)
    (refused v v.functions ins c.args.replacing whole _ _ _ c.loop-column.list (column-next v x c.args.side i blank lt) c.loop-column.invariant d
    (subst (λ (l : List Needed). ListedBy v (columns_in v.functions ins (map_of v c.args.replacing) (columns_at v c.args.side (get_or l i blank)) (exprs_in v.trees (numbers_of c.loop-column.list))) (Err d) c.loop-column.list) e c.in_err-merge_column.ensures))

pub loop-column-preserved : goal.loop-column-preserved
loop-column-preserved c =
    let t = c.args.tables.now in
    let v = view_in t in
    let ins = fields_at t c.args.under.0 in
    let x = c.args.extractor.now in
    let i = c.loop-column.column-index in
    let e = c.needed-column-items.ensures in
    let lt : i < length x.needed = omega (arith, c.loop-column-test.true, ap length e) in
    let whole = columns_in v.functions ins (map_of v c.args.replacing) (needed_at v x c.args.side) (exprs_in v.trees (numbers_of c.args.list.now)) in
    turn v v.functions ins c.args.replacing whole _ _ _ c.loop-column.list (column-next v x c.args.side i blank lt) c.loop-column.invariant c.merge_column.new.list
    (subst (λ (l : List Needed). Listed v (columns_in v.functions ins (map_of v c.args.replacing) (columns_at v c.args.side (get_or l i blank)) (exprs_in v.trees (numbers_of c.loop-column.list))) c.merge_column.new.list) e c.in_ok-merge_column.ensures)

pub returns : goal.returns
returns c =
    let t = c.args.tables.now in
    let v = view_in t in
    let ins = fields_at t c.args.under.0 in
    let x = c.args.extractor.now in
    let whole = columns_in v.functions ins (map_of v c.args.replacing) (needed_at v x c.args.side) (exprs_in v.trees (numbers_of c.args.list.now)) in
    listed-all v v.functions ins c.args.replacing whole _ c.loop-column.list
    (columns-end v x c.args.side c.loop-column.column-index (omega (arith, c.loop-column-test.false, ap length c.needed-column-items.ensures))) c.loop-column.invariant
