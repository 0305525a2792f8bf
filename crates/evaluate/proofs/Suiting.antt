-- An engine that is strict wherever a book says so fits it.
use Rattle.std.proofs.Common.{◌≡◌, ℕ, zero, suc, ◌+◌, ◌<◌, Bool, true, false, not, ◌&&◌, ◌||◌, T, List, [], ◌∷◌, length, None, Option, sym, refl, ap, ◌∙◌, ap₂, arith}
use Rattle.std.specs.List.{list_all, range_with_len}
use Rattle.std.proofs.lemmas.List.{get_or_past}
use Rattle.std.proofs.lemmas.Bool.{and_parts}
use Rattle.table.specs.Fold.{all_ok}
use Rattle.plan.specs.Fields.{any}
use Rattle.plan.specs.Functions.{Function, Functions, function_at, strict_in}
use Rattle.plan.specs.Values.{Value, is_null_value}
use Rattle.plan.specs.Values.Value.{null}
use Rattle.engine.specs.Strictness.{Meaning, any_null}
use Rattle.evaluate.specs.Fitness.{FitsAll, suits, suits_at}

holds : (b : Bool) → T b → b ≡ true
holds true h = refl
holds false h = absurd h

same-nulls : (vs : List Value) → any_null vs ≡ any is_null_value vs
same-nulls [] = refl
same-nulls (v ∷ vs) = ap (λ b. is_null_value v || b) (same-nulls vs)

module _ (strict : ℕ → Bool) where
  -- each number, by the list of numbers
  pub suits-each : (at : ℕ → Option Function) (fs : Functions) (i : ℕ) → ((j : ℕ) → j < length fs → at (i + j) ≡ function_at fs j) → list_all (λ n. suits_at strict n (at n)) (range_with_len i (length fs)) ≡ all_ok (suits_at strict) i fs
  suits-each at [] i h = refl
  suits-each at (f ∷ fs) i h =
      let z : i + 0 ≡ i = omega arith in
      let here : at i ≡ f = sym (ap at z) ∙ h 0 (omega arith) in
      let later : (j : ℕ) → j < length fs → at ((i + 1) + j) ≡ function_at fs j = λ j lt. let y : (i + 1) + j ≡ i + suc j = omega arith in ap at y ∙ h (suc j) (omega arith) in
      ap₂ (λ o b. suits_at strict i o && b) here (suits-each at fs (i + 1) later)

  each-suits : (fs : Functions) (i n : ℕ) → all_ok (suits_at strict) i fs ≡ true → suits_at strict (i + n) (function_at fs n) ≡ true
  each-suits [] i n h = ap (suits_at strict (i + n)) (get_or_past [] n None (omega arith))
  each-suits (f ∷ fs) i zero h =
      let z : i + 0 ≡ i = omega arith in
      ap (λ k. suits_at strict k f) z ∙ (and_parts (suits_at strict i f) (all_ok (suits_at strict) (i + 1) fs) h).0
  each-suits (f ∷ fs) i (suc n) h =
      let z : i + suc n ≡ (i + 1) + n = omega arith in
      ap (λ k. suits_at strict k (function_at fs n)) z ∙ each-suits fs (i + 1) n (and_parts (suits_at strict i f) (all_ok (suits_at strict) (i + 1) fs) h).1

  strict-there : (n : ℕ) (f : Option Function) → suits_at strict n f ≡ true → T (strict_in f) → strict n ≡ true
  strict-there n f h k = go (strict_in f) h k
    where
      go : (b : Bool) → (not b || strict n) ≡ true → T b → strict n ≡ true
      go true h k = h
      go false h k = absurd k

  pub fits_all : (meaning : Meaning) (fs : Functions) → ((book row : List ℕ) (n : ℕ) (vs : List Value) → strict n ≡ true → any_null vs ≡ true → meaning book row n vs ≡ null) → suits strict fs ≡ true → FitsAll fs meaning
  fits_all meaning fs law h w same n vs s k =
      let z : 0 + n ≡ n = omega arith in
      let here : suits_at strict n (function_at fs n) ≡ true = sym (ap (λ m. suits_at strict m (function_at fs n)) z) ∙ each-suits fs 0 n h in
      ap (λ m. m w.book_text w.row_text n vs) same
      ∙ law w.book_text w.row_text n vs (strict-there n (function_at fs n) here s) (same-nulls vs ∙ holds (any is_null_value vs) k)
