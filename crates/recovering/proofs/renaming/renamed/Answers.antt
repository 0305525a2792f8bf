use Rattle.std.proofs.Common.{◌≡◌, Ok, Err, ap, sym, ◌∙◌, subst, rules}
use Rattle.entries.specs.Spans.{stored_field}
use Rattle.extracting.proofs.Built.{reused-built}
use Rattle.extracting.specs.Walking.{BuiltBy}
use Rattle.plan.specs.Model.{expr_in}
use Rattle.plan.specs.Terms.{same_field}
use Rattle.plan.specs.Terms.Expr.{alias, reference}
use Rattle.rewriting.specs.Generated.{next_number}
use Rattle.rewriting.specs.Outlay.{tree_space}
use Rattle.tables.proofs.Begun.{tables-then}
use Rattle.tables.specs.Holding.{model_of, view_in}
use Rattle.tables.specs.Reusing.{Reused}
use Rattle.terms.specs.Views.{view_of}
use Rattle.recovering.proofs.Renamed.{placed-alias, placed-fails, placed-same, second-low}
use Rattle.recovering.proofs.renaming.renamed.Goals as goal
use Rattle.recovering.specs.Renaming.{placed}

pub returns-in_err-column-clause-answer : goal.returns-in_err-column-clause-answer
returns-in_err-column-clause-answer c =
    let t = c.args.tables.now in
    let u = c.column.new.self in
    let f = stored_field (view_in t).bytes c.args.name in
    let g = stored_field (view_in t).bytes c.args.field in
    let e = c.in_err-column.field-0.0 in
    let is-err : c.from_residual.result ≡ Err e = search rules in
    subst (λ r. BuiltBy t (tree_space (placed f g)) 0 (placed f g) r u) (sym is-err)
    (placed-fails t u f g e (reused-built t u (reference g) (Err e) (second-low (next_number (model_of t)) f g c.requires.low) c.in_err-column.ensures.answer))

pub returns-then-is_same-clause-answer : goal.returns-then-is_same-clause-answer
returns-then-is_same-clause-answer c =
    let t = c.args.tables.now in
    let u = c.column.new.self in
    let f = stored_field (view_in t).bytes c.args.name in
    let g = stored_field (view_in t).bytes c.args.field in
    let r = c.in_ok-column.column in
    let asked = ap (λ s. same_field (stored_field (view_of s).bytes c.args.name) (stored_field (view_of s).bytes c.args.field)) (sym c.terms.ensures) ∙ sym c.same_field-is_same.ensures in
    placed-same t u f g r.0 (reused-built t u (reference g) (Ok r) (second-low (next_number (model_of t)) f g c.requires.low) c.in_ok-column.ensures.answer) (asked ∙ c.if-is_same.true)

pub returns-clause-answer : goal.returns-clause-answer
returns-clause-answer c =
    let t = c.args.tables.now in
    let u = c.column.new.self in
    let f = stored_field (view_in t).bytes c.args.name in
    let g = stored_field (view_in t).bytes c.args.field in
    let r = c.in_ok-column.column in
    let a = c.alias_as.ensures.answer in
    let asked = ap (λ s. same_field (stored_field (view_of s).bytes c.args.name) (stored_field (view_of s).bytes c.args.field)) (sym c.terms.ensures) ∙ sym c.same_field-is_same.ensures in
    placed-alias t u f g r.0 (reused-built t u (reference g) (Ok r) (second-low (next_number (model_of t)) f g c.requires.low) c.in_ok-column.ensures.answer) c.alias_as.new.self c.alias_as.result (asked ∙ c.if-is_same.false) c.requires.low
    (subst (λ b. Reused (model_of u) (alias (expr_in (view_in u).trees r.0) (stored_field b c.args.name)) c.alias_as.result (model_of c.alias_as.new.self)) c.in_ok-column.ensures.answer.text a)

pub returns-clause-begins : goal.returns-clause-begins
returns-clause-begins c = tables-then c.args.tables.now c.column.new.self c.alias_as.new.self c.in_ok-column.ensures.begins c.alias_as.ensures.begins
