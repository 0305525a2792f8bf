-- Lists of one and of two arguments, for the proofs of engines.
use Rattle.std.proofs.Common.{◌≡◌, ℕ, Bool, true, false, cond, List, [], ◌∷◌, map, length, get_or, refl, arith}
use Rattle.plan.specs.Values.{Value}
use Rattle.plan.specs.Values.Value.{null}
use Rattle.engine.specs.Arguments.{of_one, of_two}

pub one-is : {X Y : Type 0} (f : X → Y) (xs : List X) (d : X) → length xs ≡ 1 → map f xs ≡ f (get_or xs 0 d) ∷ []
one-is f [] d h = absurd (omega arith)
one-is f (x ∷ []) d h = refl
one-is f (x ∷ y ∷ zs) d h = absurd (omega arith)

pub two_is : {X Y : Type 0} (f : X → Y) (xs : List X) (d : X) → length xs ≡ 2 → map f xs ≡ f (get_or xs 0 d) ∷ f (get_or xs 1 d) ∷ []
two_is f [] d h = absurd (omega arith)
two_is f (x ∷ []) d h = absurd (omega arith)
two_is f (x ∷ y ∷ []) d h = refl
two_is f (x ∷ y ∷ z ∷ zs) d h = absurd (omega arith)

pub not-one : {X : Type 0} (f : X → Value) (g : Value → Value) (xs : List X) → (length xs ≡ 1 → ⊥) → null ≡ of_one g (map f xs)
not-one f g [] h = refl
not-one f g (x ∷ []) h = absurd (h refl)
not-one f g (x ∷ y ∷ zs) h = refl

pub not-two : {X : Type 0} (f : X → Value) (g : Value → Value → Value) (xs : List X) → (length xs ≡ 2 → ⊥) → null ≡ of_two g (map f xs)
not-two f g [] h = refl
not-two f g (x ∷ []) h = refl
not-two f g (x ∷ y ∷ []) h = absurd (h refl)
not-two f g (x ∷ y ∷ z ∷ zs) h = refl

-- null by either way
pub either-null : (b : Bool) (v w : Value) → null ≡ v → null ≡ w → null ≡ cond b v w
either-null true v w p q = p
either-null false v w p q = q
