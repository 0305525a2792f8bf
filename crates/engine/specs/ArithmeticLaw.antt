-- The arithmetic's strict numbers give null wherever an argument is null.
--     arithmetic-nulls      that law
use Rattle.std.specs.Prelude.{◌≡◌, ℕ, true, cond, ◌||◌, List, [], ◌∷◌, ◌==◌, ℤ, Float, ◌+ℤ◌, ◌-ℤ◌, refl}
use Rattle.std.specs.Float.{binary64}
use Rattle.std.specs.Float.Ieee.{add, sub}
use Rattle.std.proofs.Common.{arith}
use Rattle.std.proofs.Math.Bool.{or-false}
use Rattle.std.proofs.lemmas.Bool.{cond-true}
use Rattle.plan.specs.Values.{Value, is_null_value}
use Rattle.plan.specs.Values.Value.{null, whole, real}
use Rattle.engine.specs.Arithmetic.{of_numbers, equal, plus, minus, both, missing, arithmetic, arithmetic_strict}
use Rattle.engine.specs.Strictness.{any_null}

of_numbers-null : (wholes : ℤ → ℤ → ℤ) (reals : Float → Float → Float) (a b : Value) → (is_null_value a || is_null_value b) ≡ true → of_numbers wholes reals a b ≡ null
of_numbers-null wholes reals (whole m) (whole n) h = cc
of_numbers-null wholes reals (real x) (real y) h = cc
of_numbers-null wholes reals _ _ h = refl

chosen : (n : ℕ) (e p m b s : Value) → e ≡ null → p ≡ null → m ≡ null → arithmetic_strict n ≡ true
    → cond (n == 0) e (cond (n == 1) p (cond (n == 2) m (cond (n == 3) b (cond (n == 4) s null)))) ≡ null
chosen n e p m b s he hp hm h = grind arith

pub arithmetic-nulls : (n : ℕ) (vs : List Value) → arithmetic_strict n ≡ true → any_null vs ≡ true → arithmetic n vs ≡ null
arithmetic-nulls n (x ∷ y ∷ []) h k =
    let j : (is_null_value x || is_null_value y) ≡ true = rw or-false at k in
    chosen n (equal x y) (plus x y) (minus x y) (both x y) null (cond-true _ _ _ j) (of_numbers-null (◌+ℤ◌) (add binary64) x y j) (of_numbers-null (◌-ℤ◌) (sub binary64) x y j) h
arithmetic-nulls n (x ∷ []) h _ = chosen n null null null null (missing x) refl refl refl h
arithmetic-nulls n _ h _ = chosen n null null null null null refl refl refl h
