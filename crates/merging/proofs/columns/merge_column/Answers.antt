use Rattle.std.proofs.Common.{◌≡◌, ◌<◌, length, sym, ◌∙◌, subst}
use Rattle.plan.specs.Terms.Expr.{reference}
use Rattle.rewriting.specs.Extracting.{replace_cols_by_name}
use Rattle.rows.specs.Rows.{seek}
use Rattle.entries.specs.Spans.{stored_field}
use Rattle.tables.specs.Holding.{fields_at, view_in}
use Rattle.terms.specs.Views.{tree_of, view_of}
use Rattle.merging.specs.Replacing.{map_of}
use Rattle.merging.proofs.Columning.{found, left-out, taken-in}
use Rattle.merging.proofs.columns.merge_column.Goals as goal

pub returns-then-not-is_same : goal.returns-then-not-is_same
returns-then-not-is_same c =
    let t = c.args.tables.now in
    let v = view_in t in
    left-out v v.functions (fields_at t c.args.under.0) c.args.replacing c.args.side c.args.column c.args.list.now c.requires.list c.requires.few (sym c.is_same.ensures ∙ c.if-not-is_same.true)

pub returns : goal.returns
returns c =
    let t = c.args.tables.now in
    let v = view_in t in
    let e = c.behind_field-e.result.0 in
    taken-in v v.functions (fields_at t c.args.under.0) c.args.replacing c.args.side c.args.column c.args.list.now (sym c.is_same.ensures ∙ c.if-not-is_same.false) e c.add_column.result c.add_column.new.list
    (subst (λ m. tree_of m e ≡ replace_cols_by_name (map_of (view_of m) c.args.replacing) (reference (stored_field (view_of m).bytes c.args.column.field))) c.terms.ensures c.behind_field-e.ensures.tree) c.add_column.ensures

pub behind_field-e-requires-clause-known : goal.behind_field-e-requires-clause-known
behind_field-e-requires-clause-known c =
    let t = c.args.tables.now in
    let v = view_in t in
    subst (λ m. seek (stored_field (view_of m).bytes c.args.column.field) (map_of (view_of m) c.args.replacing).0 < length c.args.replacing.fields.now) (sym c.terms.ensures)
    (found v v.functions (fields_at t c.args.under.0) c.args.replacing c.args.side c.args.column c.args.list.now (sym c.is_same.ensures ∙ c.if-not-is_same.false) c.requires.known)
