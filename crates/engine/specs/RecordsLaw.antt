-- The records engine gives null wherever an argument is null.
--     records-nulls      that law
use Rattle.std.specs.Prelude.{◌≡◌, ℕ, true, false, ◌||◌, List, [], ◌∷◌, refl}
use Rattle.std.proofs.Common.{arith}
use Rattle.plan.specs.Values.{Value, is_null_value}
use Rattle.plan.specs.Values.Value.{null, text, record_number}
use Rattle.engine.specs.Arguments.{of_two}
use Rattle.engine.specs.Records.{get_field, records}
use Rattle.engine.specs.Strictness.{any_null}

get_field-null : (field : ℕ → List ℕ → Value) (a b : Value) → (is_null_value a || (is_null_value b || false)) ≡ true → get_field field a b ≡ null
get_field-null field (record_number k) (text s) h = cc
get_field-null field _ _ h = refl

of_two-null : (field : ℕ → List ℕ → Value) (vs : List Value) → any_null vs ≡ true → of_two (get_field field) vs ≡ null
of_two-null field (x ∷ y ∷ []) h = get_field-null field x y h
of_two-null field _ h = refl

pub records-nulls : (field : ℕ → List ℕ → Value) (n : ℕ) (vs : List Value) → any_null vs ≡ true → records field n vs ≡ null
records-nulls field n vs h = grind (arith, of_two-null field vs h)
