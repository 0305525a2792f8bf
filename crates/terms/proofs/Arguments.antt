-- What the arguments of a call come to together: how many nodes their trees have, and how long their names are.
use Rattle.std.proofs.Common.{◌≡◌, ℕ, ◌+◌, ◌*◌, ◌<◌, ◌≤◌, true, List, [], ◌∷◌, length, sum_by, refl, ap, ◌∙◌, arith, length-append}
use Rattle.std.proofs.lemmas.List.Sums.{sum_by-cons}
use Rattle.std.proofs.lemmas.Bool.{and_parts, ltb-true}
use Rattle.plan.specs.Calls.{below, all_below}
use Rattle.plan.specs.Rendering.{rendered, rendered_rest}
use Rattle.plan.specs.Terms.{size_of, sizes_of}
use Rattle.terms.specs.Acceptance.{acceptable}
use Rattle.terms.specs.Build.{width_of}
use Rattle.terms.specs.Views.{arguments_of, count, view_of, tree_of, numbers_of}
use Rattle.entries.specs.declared.node.ExprId.{ExprId}
use Rattle.terms.specs.declared.terms.Terms.{Terms}
use Rattle.terms.proofs.Bounds.{small, width-le}
use Rattle.lexicon.proofs.Frames.{every-at}

-- what is at most so much for each of some expressions is at most so many times as much for all
pub bounded-sum : (n top : ℕ) (h : ExprId → ℕ) → ((e : ExprId) → e.0 < n → h e ≤ top) → (ids : List ExprId) → all_below n (numbers_of ids) ≡ true → sum_by h ids ≤ top * length ids
bounded-sum n top h b [] k = omega arith
bounded-sum n top h b (e ∷ ids) k =
    let q = and_parts (below n e.0) (all_below n (numbers_of ids)) k in
    omega (arith, sum_by-cons h e ids, b e (ltb-true _ _ q.0), bounded-sum n top h b ids q.1)

module _ (t : Terms) where
  pub small-tree : (i : ℕ) → i < count t → size_of (tree_of t i) ≤ 256
  small-tree i lt = small (view_of t).functions (tree_of t i) (every-at (acceptable (view_of t).functions) (view_of t).trees i _ lt t.accepted)

  pub short-name : (i : ℕ) → i < count t → width_of (view_of t).functions (tree_of t i) ≤ 130816
  short-name i lt =
      let ok : acceptable (view_of t).functions (tree_of t i) ≡ true = every-at (acceptable (view_of t).functions) (view_of t).trees i _ lt t.accepted in
      omega (arith, width-le (view_of t).functions t.lexicon.good (tree_of t i) ok, small-tree i lt)

  pub sizes-added : (ids : List ExprId) → sum_by (λ e. size_of (tree_of t e.0)) ids ≡ sizes_of (arguments_of t ids)
  sizes-added [] = refl
  sizes-added (e ∷ ids) = sum_by-cons (λ x. size_of (tree_of t x.0)) e ids ∙ ap (λ n. size_of (tree_of t e.0) + n) (sizes-added ids)

  pub widths-added : (ids : List ExprId) → sum_by (λ e. width_of (view_of t).functions (tree_of t e.0) + 1) ids ≡ length (rendered_rest (view_of t).functions (arguments_of t ids))
  widths-added [] = refl
  widths-added (e ∷ ids) =
      let fs = (view_of t).functions in
      omega (arith, sum_by-cons (λ x. width_of fs (tree_of t x.0) + 1) e ids, widths-added ids, length-append (rendered fs (tree_of t e.0)) (rendered_rest fs (arguments_of t ids)))
