-- One turn of a loop over a list of which each element is mapped: any, every, count and sum.
use Rattle.std.proofs.Common.{◌≡◌, ℕ, ◌+◌, ◌<◌, ◌≤◌, Bool, true, false, List, [], ◌∷◌, map, length, get_or, take, drop, count_by, sym, ap, ◌∙◌, arith}
use Rattle.std.proofs.lemmas.List.{at_drop_more, at_drop_all, get_or-map, length-map}
use Rattle.std.proofs.lemmas.List.Sums.{count_by_more_yes, count_by_more_no}

-- what is left of a mapped list, one turn on
pub mapped-step : {X Y Z : Type 0} (F : List Y → Z) (f : X → Y) (xs : List X) (i : ℕ) (d : X) → i < length xs → F (drop i (map f xs)) ≡ F (f (get_or xs i d) ∷ drop (i + 1) (map f xs))
mapped-step F f xs i d lt =
    at_drop_more F (map f xs) i (f d) (omega (arith, length-map xs f)) ∙ ap (λ y. F (y ∷ drop (i + 1) (map f xs))) (get_or-map f xs i d (f d) lt)

-- at the end nothing is left
pub mapped_end : {X Y Z : Type 0} (F : List Y → Z) (f : X → Y) (xs : List X) (i : ℕ) → length xs ≤ i → F (drop i (map f xs)) ≡ F []
mapped_end F f xs i le = at_drop_all F (map f xs) i (omega (arith, length-map xs f))

module _ {X Y : Type 0} (p : Y → Bool) (f : X → Y) (xs : List X) (i : ℕ) (d : X) (lt : i < length xs) where
  pub counted-yes : (n m : ℕ) → n ≡ count_by p (take i (map f xs)) → p (f (get_or xs i d)) ≡ true → m ≡ n + 1 → m ≡ count_by p (take (i + 1) (map f xs))
  counted-yes n m h y e =
      e ∙ ap (λ k. k + 1) h ∙ sym (count_by_more_yes p (map f xs) i (f d) (omega (arith, length-map xs f)) (ap p (get_or-map f xs i d (f d) lt) ∙ y))

  pub counted-no : (n m : ℕ) → n ≡ count_by p (take i (map f xs)) → p (f (get_or xs i d)) ≡ false → m ≡ n → m ≡ count_by p (take (i + 1) (map f xs))
  counted-no n m h y e =
      e ∙ h ∙ sym (count_by_more_no p (map f xs) i (f d) (omega (arith, length-map xs f)) (ap p (get_or-map f xs i d (f d) lt) ∙ y))

-- the same where a list is mapped twice
pub twice-step : {X Y W Z : Type 0} (F : List W → Z) (f : Y → W) (g : X → Y) (xs : List X) (i : ℕ) (d : X) → i < length xs → F (drop i (map f (map g xs))) ≡ F (f (g (get_or xs i d)) ∷ drop (i + 1) (map f (map g xs)))
twice-step F f g xs i d lt =
    mapped-step F f (map g xs) i (g d) (omega (arith, length-map xs g)) ∙ ap (λ y. F (f y ∷ drop (i + 1) (map f (map g xs)))) (get_or-map g xs i d (g d) lt)

pub twice-end : {X Y W Z : Type 0} (F : List W → Z) (f : Y → W) (g : X → Y) (xs : List X) (i : ℕ) → length xs ≤ i → F (drop i (map f (map g xs))) ≡ F []
twice-end F f g xs i le = mapped_end F f (map g xs) i (omega (arith, length-map xs g))
