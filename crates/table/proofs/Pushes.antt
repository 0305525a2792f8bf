-- A list that grew by what is made of items.
use Rattle.std.proofs.Common.{◌≡◌, ℕ, ◌+◌, ◌<◌, List, [], ◌∷◌, ◌++◌, map, length, get_or, take, sym, ap, ◌∙◌, subst, append_assoc, arith, length-append}
use Rattle.std.proofs.lemmas.List.{append-nil, take_more}
use Rattle.std.proofs.lemmas.Fn.{FoldsTo-push}
use Rattle.table.specs.Contents.{Pushed}

module _ {X Y : Type 0} (R : X → Y → Type 0) where
  -- one item more
  pub pushed_more : (xs : List X) (i : ℕ) (x : X) (y : Y) (a b c : List Y) → i < length xs → x ≡ get_or xs i x → R x y → c ≡ b ++ y ∷ []
      → (length b ≡ length a + i) × Pushed R (take i xs) a b → (length c ≡ length a + (i + 1)) × Pushed R (take (i + 1) xs) a c
  pushed_more xs i x y a b c lt is r e k = (
    omega (arith, k.0, ap length e, length-append b (y ∷ [])),
    subst (λ zs. Pushed R zs a c) (ap (λ z. take i xs ++ z ∷ []) is ∙ sym (take_more xs i x lt)) (FoldsTo-push (λ ys z ys'. (w : Y) × R z w × (ys' ≡ ys ++ w ∷ [])) a (take i xs) b x c k.1 (y, r, e)),
  )

  -- where a function says what is made of each item
  pub pushed-map : (f : X → Y) → ((x : X) (y : Y) → R x y → y ≡ f x) → (xs : List X) (a b : List Y) → Pushed R xs a b → b ≡ a ++ map f xs
  pushed-map f h [] a b p = sym p ∙ sym (append-nil a)
  pushed-map f h (x ∷ xs) a b p =
      let one = p.1 in
      pushed-map f h xs p.0 b p.2 ∙ ap (λ l. l ++ map f xs) (one.2 ∙ ap (λ y. a ++ y ∷ []) (h x one.0 one.1)) ∙ append_assoc a (f x ∷ []) (map f xs)
