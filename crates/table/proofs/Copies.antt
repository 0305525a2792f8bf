-- A loop that adds to a table what a function makes of each element of a list.
use Rattle.std.proofs.Common.{◌≡◌, ℕ, ◌+◌, ◌<◌, List, [], ◌∷◌, ◌++◌, map, length, get_or, take, sym, ap, ◌∙◌, add_assoc}
use Rattle.std.proofs.Math.ListN.{set}
use Rattle.std.proofs.lemmas.List.{map_more, append_assoc, take_more, take_more_set}

module _ {X Y : Type 0} (f : X → Y) (start : List Y) (xs : List X) where
  pub copied_more : (i : ℕ) (d : X) (now after : List Y) → i < length xs → now ≡ start ++ map f (take i xs) → after ≡ now ++ f (get_or xs i d) ∷ [] → after ≡ start ++ map f (take (i + 1) xs)
  copied_more i d now after lt h e =
      e ∙ ap (λ l. l ++ f (get_or xs i d) ∷ []) h ∙ append_assoc start (map f (take i xs)) (f (get_or xs i d) ∷ []) ∙ ap (λ l. start ++ l) (sym (map_more f xs i d lt))

-- one element more, written behind what was there
pub extended_more : {X : Type 0} (items start xs : List X) (n i : ℕ) (x : X) → n + i < length items → i < length xs
    → take (n + i) items ≡ start ++ take i xs → x ≡ get_or xs i x → take (n + (i + 1)) (set items (n + i) x) ≡ start ++ take (i + 1) xs
extended_more items start xs n i x h lt inv e =
    ap (λ k. take k (set items (n + i) x)) (sym (add_assoc n i 1)) ∙ take_more_set items (n + i) x h ∙ ap (λ l. l ++ x ∷ []) inv
    ∙ append_assoc start (take i xs) (x ∷ []) ∙ ap (λ l. start ++ l) (ap (λ y. take i xs ++ y ∷ []) e ∙ sym (take_more xs i x lt))
