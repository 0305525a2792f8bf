use Rattle.std.proofs.Common.{◌∙◌, sym}
use Rattle.plan.specs.Model.{exprs_in}
use Rattle.leaf_expressions.proofs.Grouped.{extractable-first, extractable-second}
use Rattle.terms.specs.Views.{numbers_of, view_of}
use Rattle.leaf_expressions.proofs.aggregate.has_extractable.Goals as goal

pub returns-then-has_extractable_expr : goal.returns-then-has_extractable_expr
returns-then-has_extractable_expr c =
    let v = view_of c.args.terms.now in
    c.if-has_extractable_expr.true ∙ sym (extractable-first v.functions (exprs_in v.trees (numbers_of c.args.groups.now)) (exprs_in v.trees (numbers_of c.args.totals.now)) (sym c.has_extractable_expr.ensures ∙ c.if-has_extractable_expr.true))

pub returns-else-has_extractable_expr : goal.returns-else-has_extractable_expr
returns-else-has_extractable_expr c =
    let v = view_of c.args.terms.now in
    c.has_extractable_expr-else-has_extractable_expr.ensures
    ∙ sym (extractable-second v.functions (exprs_in v.trees (numbers_of c.args.groups.now)) (exprs_in v.trees (numbers_of c.args.totals.now)) (sym c.has_extractable_expr.ensures ∙ c.if-has_extractable_expr.false))
