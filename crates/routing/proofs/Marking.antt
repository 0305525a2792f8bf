-- Whether an expression is Marked or a part of it, kind by kind.
use Rattle.std.proofs.Common.{◌≡◌, ℕ, false, ◌||◌, ◌⊎◌, List, [], ◌∷◌, refl, ap, ◌∙◌, inl, inr}
use Rattle.plan.specs.Fields.{any}
use Rattle.plan.specs.Functions.{Functions, is_marked, placement_of}
use Rattle.plan.specs.Terms.{Expr, Field, arguments}
use Rattle.plan.specs.Terms.Expr.{alias, call}
use Rattle.terms.specs.Views.{tree_for, tree_of}
use Rattle.entries.specs.declared.node.ExprNode.{ExprNode}
use Rattle.entries.specs.declared.node.ExprNode.TheVariants.{Constant, Reference}
use Rattle.entries.specs.declared.node.Literal.{Literal}
use Rattle.entries.specs.declared.node.StoredField.{StoredField}
use Rattle.terms.specs.declared.terms.Terms.{Terms}
use Rattle.rewriting.specs.Routing.{has_extractable_expr, hold_marked, holds_marked}

module _ (F : Functions) where
  pub of-some : (ts : List Expr) → has_extractable_expr F ts ≡ any (holds_marked F) ts
  unfolding has_extractable_expr
  of-some ts = refl

  pub of-plain : (t : Terms) (e : ℕ) (n : ExprNode) → tree_of t e ≡ tree_for t n → ((v : Literal) × (n ≡ Constant v)) ⊎ ((f : StoredField) × (n ≡ Reference f)) → holds_marked F (tree_of t e) ≡ false
  unfolding holds_marked
  of-plain t e n tree (inl v) = ap (holds_marked F) (tree ∙ ap (tree_for t) v.1)
  of-plain t e n tree (inr f) = ap (holds_marked F) (tree ∙ ap (tree_for t) f.1)

  pub of-alias : (e : Expr) (f : Field) → holds_marked F (alias e f) ≡ holds_marked F e
  unfolding holds_marked
  of-alias e f = refl

  of-list : (ts : List Expr) → hold_marked F (arguments ts) ≡ any (holds_marked F) ts
  unfolding holds_marked
  of-list [] = refl
  of-list (t ∷ ts) = ap (λ b. holds_marked F t || b) (of-list ts)

  pub of-call : (n : ℕ) (ts : List Expr) → holds_marked F (call n (arguments ts)) ≡ (is_marked (placement_of F (call n (arguments ts))) || any (holds_marked F) ts)
  unfolding holds_marked
  of-call n ts = ap (λ b. is_marked (placement_of F (call n (arguments ts))) || b) (of-list ts)
