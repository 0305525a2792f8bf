-- The list of a Projection, and each of its expressions less one alias.
use Rattle.std.proofs.Common.{◌≡◌, ℕ, ◌+◌, ◌<◌, true, List, [], ◌∷◌, ◌++◌, map, length, get_or, take, sym, ap, ap₂, ◌∙◌}
use Rattle.std.proofs.lemmas.List.{map_push, take_more}
use Rattle.plan.specs.Calls.{all_below}
use Rattle.plan.specs.Model.{expr_in, exprs_in}
use Rattle.plan.specs.Terms.{Expr}
use Rattle.rewriting.specs.Routing.{unalias}
use Rattle.entries.specs.declared.node.ExprId.{ExprId}
use Rattle.terms.proofs.Walks.{item_below}
use Rattle.terms.specs.Views.{View, numbers_of}

module _ (v : View) (list : List ExprId) (i : ℕ) (d : ExprId) (lt : i < length list) where
  pub there : all_below (length v.trees) (numbers_of list) ≡ true → (get_or list i d).0 < length v.trees
  there h = item_below (λ (x : ExprId). x.0) (length v.trees) list i d lt h

  abbrev trees : List ExprId → List Expr
  trees l = exprs_in v.trees (numbers_of l)

  pushed-trees : (l : List ExprId) (e : ExprId) → trees (l ++ e ∷ []) ≡ trees l ++ expr_in v.trees e.0 ∷ []
  pushed-trees l e = ap (exprs_in v.trees) (map_push (λ (x : ExprId). x.0) l e) ∙ map_push (expr_in v.trees) (numbers_of l) e.0

  pub one-more : (bare bare' : List ExprId) (e : ExprId) → trees bare ≡ map unalias (trees (take i list)) → bare' ≡ bare ++ e ∷ [] → expr_in v.trees e.0 ≡ unalias (expr_in v.trees (get_or list i d).0) → trees bare' ≡ map unalias (trees (take (i + 1) list))
  one-more bare bare' e h pushed is =
      ap trees pushed ∙ pushed-trees bare e ∙ ap₂ (λ l x. l ++ x ∷ []) h is ∙ sym (map_push unalias (trees (take i list)) (expr_in v.trees (get_or list i d).0))
      ∙ ap (map unalias) (sym (ap trees (take_more list i d lt) ∙ pushed-trees (take i list) (get_or list i d)))
