use Rattle.std.proofs.Common.{◌≡◌, ◌+◌, ◌≤◌, List, [], ◌∷◌, sum_by, sym, refl, ap, ◌∙◌, arith, rules}
use Rattle.std.proofs.lemmas.Iterator.{YieldsList-from_slice, YieldsList-from_map}
use Rattle.std.proofs.lemmas.Iterator.Consumers.{sum_by_from_yields_List}
use Rattle.std.proofs.lemmas.List.Sums.{sum_by-cons}
use Rattle.plan.specs.Calls.{rendered_bytes}
use Rattle.plan.specs.Functions.{Functions}
use Rattle.plan.specs.Model.{exprs_in}
use Rattle.plan.specs.Terms.{Expr}
use Rattle.plan.specs.Terms.Expr.{literal, reference, alias, call}
use Rattle.terms.specs.Build.{width_of}
use Rattle.terms.specs.Views.{count, numbers_of, tree_of, view_of}
use Rattle.entries.specs.declared.node.ExprId.{ExprId}
use Rattle.terms.specs.declared.terms.Terms.{Terms}
use Rattle.terms.proofs.Arguments.{bounded-sum, short-name}
use Rattle.terms.proofs.Walks.{serves_low}
use Rattle.draft.proofs.reading.rendered_bytes.Goals as goal

not_longer : (fs : Functions) (e : Expr) → rendered_bytes fs e ≤ width_of fs e
not_longer fs (literal v) = omega arith
not_longer fs (reference f) = omega arith
not_longer fs (alias e f) = omega arith
not_longer fs (call n es) = omega arith

module _ (t : Terms) where
  added : (ids : List ExprId) → sum_by (λ e. rendered_bytes (view_of t).functions (tree_of t e.0)) ids ≡ sum_by (rendered_bytes (view_of t).functions) (exprs_in (view_of t).trees (numbers_of ids))
  added [] = refl
  added (e ∷ ids) =
      let h = rendered_bytes (view_of t).functions in
      sum_by-cons (λ x. h (tree_of t x.0)) e ids ∙ ap (λ n. h (tree_of t e.0) + n) (added ids) ∙ sym (sum_by-cons h (tree_of t e.0) (exprs_in (view_of t).trees (numbers_of ids)))

pub sum-requires-clause-can : goal.sum-requires-clause-can
sum-requires-clause-can c =
    let n = count c.args.terms.now in
    let ids = c.args.ids.now in
    (tt, serves_low (λ y. y.0) n (YieldsList-from_slice ids cc) c.requires.present (λ x q k. search rules) (λ x h. search rules))

pub returns : goal.returns
returns c =
    let t = c.args.terms.now in
    let ids = c.args.ids.now in
    let fs = (view_of t).functions in
    let len = λ (e : ExprId). rendered_bytes fs (tree_of t e.0) in
    let s = sum_by_from_yields_List len ids c.map.result _ c.sum.ensures.ran (YieldsList-from_map _ len (YieldsList-from_slice ids cc) c.map.ensures.closure (λ x r q k. search rules)) in
    record { value = s ∙ added t ids; bound = omega (arith, s, bounded-sum (count t) 130816 len (λ e lt. omega (arith, not_longer fs (tree_of t e.0), short-name t e.0 lt)) ids c.requires.present, c.requires.few) }
