-- Expressions with some parts replaced by references to columns.
use Rattle.std.proofs.Common.{ℕ, List, [], ◌∷◌}
use Rattle.plan.specs.Terms.{Expr, Exprs, Field}
use Rattle.plan.specs.Terms.Expr.{alias, call, reference}
use Rattle.plan.specs.Terms.Exprs.{more, none}

-- e' is e with some of its parts replaced by references to the columns that K names for them
mutual
  pub data Swap (K : Field → Expr → Type 0) : Expr → Expr → Type 0 where
    same : {e : Expr} → Swap K e e
    here : {e : Expr} {x : Field} → K x e → Swap K e (reference x)
    in_alias : {e e' : Expr} {f : Field} → Swap K e e' → Swap K (alias e f) (alias e' f)
    in_call : {n : ℕ} {es es' : Exprs} → Swaps K es es' → Swap K (call n es) (call n es')

  pub data Swaps (K : Field → Expr → Type 0) : Exprs → Exprs → Type 0 where
    same_nil : Swaps K none none
    both : {e e' : Expr} {es es' : Exprs} → Swap K e e' → Swaps K es es' → Swaps K (more e es) (more e' es')

abbrev pub SwapAll : (Field → Expr → Type 0) → List Expr → List Expr → Type 0
SwapAll K [] [] = Unit {0}
SwapAll K [] (d ∷ ds) = ⊥
SwapAll K (c ∷ cs) [] = ⊥
SwapAll K (c ∷ cs) (d ∷ ds) = Swap K c d × SwapAll K cs ds

module _ (K K' : Field → Expr → Type 0) (f : (x : Field) (e : Expr) → K x e → K' x e) where
  mutual
    pub swap-mono : {e e' : Expr} → Swap K e e' → Swap K' e e'
    swap-mono same = same
    swap-mono (here {e = e} {x = x} k) = here (f x e k)
    swap-mono (in_alias s) = in_alias (swap-mono s)
    swap-mono (in_call s) = in_call (swaps-mono s)

    swaps-mono : {es es' : Exprs} → Swaps K es es' → Swaps K' es es'
    swaps-mono same_nil = same_nil
    swaps-mono (both s ss) = both (swap-mono s) (swaps-mono ss)
