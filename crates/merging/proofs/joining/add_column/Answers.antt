use Rattle.std.proofs.Common.{List, ◌++◌, [], ◌∷◌, sym, ap, ◌∙◌, subst}
use Rattle.plan.specs.Model.{expr_in, exprs_in}
use Rattle.entries.specs.Spans.{stored_field}
use Rattle.entries.specs.declared.node.ExprId.{ExprId}
use Rattle.entries.specs.declared.node.ExprNode.TheVariants.{Alias, Call, Constant, Reference}
use Rattle.tables.specs.Holding.{fields_at, view_in}
use Rattle.terms.specs.Views.{numbers_of, tree_of, view_of}
use Rattle.extracting.proofs.Cases.{tree-here}
use Rattle.merging.specs.Joining.{ListedBy}
use Rattle.merging.proofs.Joined.{column-there, column_joins, column_new, no-column}
use Rattle.merging.proofs.joining.add_column.Goals as goal

pub returns-in-Constant : goal.returns-in-Constant
returns-in-Constant c =
    let t = c.args.tables.now in
    let v = view_in t in
    let tree = tree-here t c.terms.result.now c.terms.ensures c.args.e.0 (Constant c.in-Constant.field-0) c.in-Constant.ensures.tree c.in-Constant.ensures.inside in
    record {
      present = c.requires.list;
      trees = sym (no-column v.functions (fields_at t c.args.under.0) (expr_in v.trees c.args.e.0) (exprs_in v.trees (numbers_of c.args.list.now)) (λ r h. let k = sym tree ∙ h in cc));
      few = c.requires.few;
    }

pub returns-in-Alias : goal.returns-in-Alias
returns-in-Alias c =
    let t = c.args.tables.now in
    let v = view_in t in
    let tree = tree-here t c.terms.result.now c.terms.ensures c.args.e.0 (Alias c.in-Alias.inner c.in-Alias.field) c.in-Alias.ensures.tree c.in-Alias.ensures.inside in
    record {
      present = c.requires.list;
      trees = sym (no-column v.functions (fields_at t c.args.under.0) (expr_in v.trees c.args.e.0) (exprs_in v.trees (numbers_of c.args.list.now)) (λ r h. let k = sym tree ∙ h in cc));
      few = c.requires.few;
    }

pub returns-in-Call : goal.returns-in-Call
returns-in-Call c =
    let t = c.args.tables.now in
    let v = view_in t in
    let tree = tree-here t c.terms.result.now c.terms.ensures c.args.e.0 (Call c.in-Call.function c.in-Call.arguments) c.in-Call.ensures.tree c.in-Call.ensures.inside in
    record {
      present = c.requires.list;
      trees = sym (no-column v.functions (fields_at t c.args.under.0) (expr_in v.trees c.args.e.0) (exprs_in v.trees (numbers_of c.args.list.now)) (λ r h. let k = sym tree ∙ h in cc));
      few = c.requires.few;
    }

pub returns-then-not-joins : goal.returns-then-not-joins
returns-then-not-joins c =
    let t = c.args.tables.now in
    let v = view_in t in
    let f = c.in-Reference.reference in
    let tree = tree-here t c.terms.result.now c.terms.ensures c.args.e.0 (Reference f) c.in-Reference.ensures.tree c.in-Reference.ensures.inside in
    let e = expr_in v.trees c.args.e.0 in
    let joins = λ (l : List ExprId). column_joins v.functions (fields_at t c.args.under.0) (stored_field v.bytes f) e (exprs_in v.trees (numbers_of l)) in
    record {
      present = c.requires.list;
      trees = sym (column-there v.functions (fields_at t c.args.under.0) (stored_field v.bytes f) e (exprs_in v.trees (numbers_of c.args.list.now)) tree (sym (ap joins c.as_slice.ensures) ∙ sym c.joins.ensures ∙ c.if-not-joins.true));
      few = c.requires.few;
    }

pub returns-else-not-joins : goal.returns-else-not-joins
returns-else-not-joins c =
    let t = c.args.tables.now in
    let v = view_in t in
    let f = c.in-Reference.reference in
    let tree = tree-here t c.terms.result.now c.terms.ensures c.args.e.0 (Reference f) c.in-Reference.ensures.tree c.in-Reference.ensures.inside in
    let e = expr_in v.trees c.args.e.0 in
    let acc = exprs_in v.trees (numbers_of c.args.list.now) in
    let joins = λ (l : List ExprId). column_joins v.functions (fields_at t c.args.under.0) (stored_field v.bytes f) e (exprs_in v.trees (numbers_of l)) in
    let is = column_new v.functions (fields_at t c.args.under.0) (stored_field v.bytes f) e acc tree (sym (ap joins c.as_slice.ensures) ∙ sym c.joins.ensures ∙ c.if-not-joins.false) in
    subst (λ es. ListedBy v es c.join.result c.join.new.list) (sym is)
    (subst (λ m. ListedBy (view_of m) (exprs_in (view_of m).trees (numbers_of c.args.list.now) ++ tree_of m c.args.e.0 ∷ []) c.join.result c.join.new.list) c.terms-in-Reference.ensures c.join.ensures)
