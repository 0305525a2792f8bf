-- Lists, by the words of a query.
--     keep p xs      the elements that pass the test p, in order
--     or_else xs d      the list, or d alone where it is empty
--     gather ns xs      the elements at the places ns; places past the end are passed over
--     each f xs      what f gives for each element, in turn
use Rattle.std.specs.Prelude.{ℕ, zero, suc, Bool, cond, List, [], ◌∷◌, ◌++◌}

module _ {A : Type 0} where
  unfoldable pub keep : (A → Bool) → List A → List A
  keep p [] = []
  keep p (x ∷ xs) = cond (p x) (x ∷ keep p xs) (keep p xs)

  unfoldable pub or_else : List A → A → List A
  or_else [] d = d ∷ []
  or_else (x ∷ xs) d = x ∷ xs

  -- the element at a place, if there is one, before others
  unfoldable pub place : List A → ℕ → List A → List A
  place [] n r = r
  place (x ∷ xs) zero r = x ∷ r
  place (x ∷ xs) (suc n) r = place xs n r

  unfoldable pub gather : List ℕ → List A → List A
  gather [] xs = []
  gather (n ∷ ns) xs = place xs n (gather ns xs)

unfoldable pub each : {A B : Type 0} → (A → List B) → List A → List B
each f [] = []
each f (x ∷ xs) = f x ++ each f xs
