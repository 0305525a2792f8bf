-- Null-keeping calls.
use Rattle.std.proofs.Common.{◌≡◌, ℕ, ◌&&◌, ◌||◌, List, [], ◌∷◌, refl, ap}
use Rattle.plan.specs.Fields.{any}
use Rattle.plan.specs.Functions.{Functions, function_at, null_keeping, one_null_keeping, strict_in}
use Rattle.plan.specs.Terms.{Expr, arguments}
use Rattle.plan.specs.Terms.Expr.{call}

module _ (F : Functions) where
  of-list : (ts : List Expr) → one_null_keeping F (arguments ts) ≡ any (null_keeping F) ts
  of-list [] = refl
  of-list (t ∷ ts) = ap (λ b. null_keeping F t || b) (of-list ts)

  pub of-call : (n : ℕ) (ts : List Expr) → null_keeping F (call n (arguments ts)) ≡ (strict_in (function_at F n) && any (null_keeping F) ts)
  of-call n ts = ap (λ b. strict_in (function_at F n) && b) (of-list ts)
