-- What an operation on two whole numbers or on two reals makes of two values of the program.
--     OfNumbers wholes reals a b r      r is what the one gives of two whole numbers, the other of two reals, else null
use Rattle.std.specs.Prelude.{◌≡◌, ℤ, Float, Option, MatchOption}
use Rattle.value.specs.declared.Value.{Value}
use Rattle.value.specs.declared.Value.TheVariants.{Null, Whole, Real}

abbrev pub OfNumbers : (ℤ → ℤ → Option ℤ → Type 0) → (Float → Float → Float → Type 0) → Value → Value → Value → Type 0
OfNumbers wholes _ (Whole m) (Whole n) r = (o : Option ℤ) × wholes m n o × MatchOption o (r ≡ Null) (λ z. r ≡ Whole z)
OfNumbers _ reals (Real x) (Real y) r = (z : Float) × reals x y z × (r ≡ Real z)
OfNumbers _ _ _ _ r = r ≡ Null
