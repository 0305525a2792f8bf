use Rattle.std.proofs.Common.{◌<◌, length, sym, ◌∙◌, ap₂}
use Rattle.std.proofs.lemmas.Bool.{and_from, ltb-true}
use Rattle.plan.specs.Terms.Expr.{alias}
use Rattle.plan.specs.Calls.{good_alias}
use Rattle.plan.specs.Model.{expr_in}
use Rattle.terms.specs.Acceptance.{acceptable}
use Rattle.expression.specs.Building.{given_field}
use Rattle.terms.specs.Views.{view_of}
use Rattle.lexicon.proofs.Frames.{every-at}
use Rattle.expression.proofs.Grown.{same-trees, same-functions}
use Rattle.expression.proofs.building.alias.Goals as goal

pub add-requires-clause-accepted : goal.add-requires-clause-accepted
add-requires-clause-accepted c =
    let v = view_of c.args.terms.now in
    let w = view_of c.write_field-field.new.terms in
    let i = c.args.inner.0 in
    let e = c.write_field-field.ensures.view in
    let lt : i < length v.trees = ltb-true _ _ (sym c.has.ensures ∙ c.in_ok-ask.ensures) in
    ap₂ (λ fs x. acceptable fs x) (same-functions v w _ _ e) (ap₂ (λ ts g. alias (expr_in ts i) g) (same-trees v w _ _ e) c.write_field-field.ensures.field)
    ∙ and_from (acceptable v.functions (expr_in v.trees i)) _ (every-at (acceptable v.functions) v.trees i _ lt c.args.terms.now.accepted)
    (and_from (good_alias (given_field c.args.name.now c.args.qualifier)) _ (sym c.is_good_alias.ensures ∙ c.in_ok-ask-2.ensures) (sym c.is_small.ensures ∙ c.in_ok-ask-3.ensures))
