-- What every engine keeps: a strict number gives null wherever an argument is null.
--     any_null vs      whether one of the arguments is null
--     NullsAt meaning strict, Nulls meaning strict      the law, of one engine and of the engines of one type
--     pair_meaning, pair_strict      two engines side by side: numbers below the split go to the first
--     never-strict      an engine without strict numbers keeps the law
--     pair-nulls      two engines side by side keep it
use Rattle.std.specs.Prelude.{◌≡◌, ℕ, ◌-◌, Bool, true, false, cond, List, nat_lt}
use Rattle.std.specs.List.{list_any}
use Rattle.std.proofs.Common.{arith}
use Rattle.plan.specs.Values.{Value, is_null_value}
use Rattle.plan.specs.Values.Value.{null}

abbrev pub any_null : List Value → Bool
any_null = list_any is_null_value

-- what an engine's calls mean, over the book's text and the row text
abbrev pub Meaning : Type 0
Meaning = List ℕ → List ℕ → ℕ → List Value → Value

-- the law, of one engine
abbrev pub NullsAt : Meaning → (ℕ → Bool) → Type 0
NullsAt meaning strict = (book row : List ℕ) (n : ℕ) (vs : List Value) → strict n ≡ true → any_null vs ≡ true → meaning book row n vs ≡ null

-- the law, of engines of one type
abbrev pub Nulls : {E : Type 0} → (E → Meaning) → (E → ℕ → Bool) → Type 0
Nulls {E} meaning strict = (e : E) → NullsAt (meaning e) (strict e)

pub never-strict : {E : Type 0} (meaning : E → Meaning) → Nulls meaning (λ e n. false)
never-strict meaning e book row n vs h k = cc

-- the meaning of two engines side by side
abbrev pub pair_meaning : ℕ → Meaning → Meaning → Meaning
pair_meaning split first second book row n vs = cond (nat_lt n split) (first book row n vs) (second book row (n - split) vs)

-- their strictness
abbrev pub pair_strict : ℕ → (ℕ → Bool) → (ℕ → Bool) → ℕ → Bool
pair_strict split first second n = cond (nat_lt n split) (first n) (second (n - split))

pub pair-nulls : (split : ℕ) {ma mb : Meaning} {sa sb : ℕ → Bool} → NullsAt ma sa → NullsAt mb sb → NullsAt (pair_meaning split ma mb) (pair_strict split sa sb)
pair-nulls split first second book row n vs h k = grind (arith, first book row n vs, second book row (n - split) vs)
