-- Lists: what a map passes through, and what holds of every element.
use Rattle.std.proofs.Common.{◌≡◌, ℕ, zero, suc, Bool, true, false, cond, List, [], ◌∷◌, ◌++◌, map, take, drop, refl, ap}
use Rattle.std.proofs.ByRecursion.{All-append}
use Rattle.std.specs.List.{AllByRecursion}
use Rattle.rows.specs.Lists.{each, gather, keep, or_else, place}

module _ {A B : Type 0} where
  pub map_on : (f g : A → B) (xs : List A) → AllByRecursion (λ x. f x ≡ g x) xs → map f xs ≡ map g xs
  map_on f g [] h = refl
  map_on f g (x ∷ xs) h = let p = h.0 in let q = map_on f g xs h.1 in cc

  pub map_with : {C : Type 0} (f : B → C) (g : A → B) (h : A → C) (xs : List A) → ((x : A) → f (g x) ≡ h x) → map f (map g xs) ≡ map h xs
  map_with f g h [] e = refl
  map_with f g h (x ∷ xs) e = let p = e x in let q = map_with f g h xs e in cc

  pub keep-map : (g : A → B) (p : A → Bool) (q : B → Bool) (xs : List A) → ((x : A) → q (g x) ≡ p x) → keep q (map g xs) ≡ map g (keep p xs)
  unfolding keep
  keep-map g p q [] e = refl
  keep-map g p q (x ∷ xs) e = rw (e x) (go (p x) (keep-map g p q xs e))
    where
      go : (b : Bool) → keep q (map g xs) ≡ map g (keep p xs) → cond b (g x ∷ keep q (map g xs)) (keep q (map g xs)) ≡ map g (cond b (x ∷ keep p xs) (keep p xs))
      go true h = ap (λ (r : List B). g x ∷ r) h
      go false h = h

  place_map : (g : A → B) (xs : List A) (n : ℕ) (r : List A) → place (map g xs) n (map g r) ≡ map g (place xs n r)
  unfolding place
  place_map g [] n r = refl
  place_map g (x ∷ xs) zero r = refl
  place_map g (x ∷ xs) (suc n) r = place_map g xs n r

  pub gather-map : (g : A → B) (ns : List ℕ) (xs : List A) → gather ns (map g xs) ≡ map g (gather ns xs)
  unfolding gather
  gather-map g [] xs = refl
  gather-map g (n ∷ ns) xs = rw (gather-map g ns xs) (place_map g xs n (gather ns xs))

  pub take-map : (g : A → B) (n : ℕ) (xs : List A) → take n (map g xs) ≡ map g (take n xs)
  take-map g zero xs = refl
  take-map g (suc n) [] = refl
  take-map g (suc n) (x ∷ xs) = ap (λ (r : List B). g x ∷ r) (take-map g n xs)

  pub drop-map : (g : A → B) (n : ℕ) (xs : List A) → drop n (map g xs) ≡ map g (drop n xs)
  drop-map g zero xs = refl
  drop-map g (suc n) [] = refl
  drop-map g (suc n) (x ∷ xs) = drop-map g n xs

  pub map-append : (g : A → B) (xs ys : List A) → map g (xs ++ ys) ≡ map g xs ++ map g ys
  map-append g [] ys = refl
  map-append g (x ∷ xs) ys = ap (λ (r : List B). g x ∷ r) (map-append g xs ys)

  pub all-each : (P : B → Type 0) (f : A → List B) (Q : A → Type 0) → ((x : A) → Q x → AllByRecursion P (f x)) → (xs : List A) → AllByRecursion Q xs → AllByRecursion P (each f xs)
  unfolding each
  all-each P f Q h [] k = tt
  all-each P f Q h (x ∷ xs) k = All-append P (f x) (each f xs) (h x k.0) (all-each P f Q h xs k.1)

module _ {A : Type 0} where
  pub keep-on : (p q : A → Bool) (xs : List A) → AllByRecursion (λ x. p x ≡ q x) xs → keep p xs ≡ keep q xs
  unfolding keep
  keep-on p q [] h = refl
  keep-on p q (x ∷ xs) h = let a = h.0 in let b = keep-on p q xs h.1 in cc

  pub all_keep : (P : A → Type 0) (p : A → Bool) (xs : List A) → AllByRecursion P xs → AllByRecursion P (keep p xs)
  unfolding keep
  all_keep P p [] h = tt
  all_keep P p (x ∷ xs) h = go (p x) (all_keep P p xs h.1)
    where
      go : (b : Bool) → AllByRecursion P (keep p xs) → AllByRecursion P (cond b (x ∷ keep p xs) (keep p xs))
      go true k = (h.0, k)
      go false k = k

  all-place : (P : A → Type 0) (xs : List A) (n : ℕ) (r : List A) → AllByRecursion P xs → AllByRecursion P r → AllByRecursion P (place xs n r)
  unfolding place
  all-place P [] n r h k = k
  all-place P (x ∷ xs) zero r h k = (h.0, k)
  all-place P (x ∷ xs) (suc n) r h k = all-place P xs n r h.1 k

  pub all-gather : (P : A → Type 0) (ns : List ℕ) (xs : List A) → AllByRecursion P xs → AllByRecursion P (gather ns xs)
  unfolding gather
  all-gather P [] xs h = tt
  all-gather P (n ∷ ns) xs h = all-place P xs n (gather ns xs) h (all-gather P ns xs h)

  pub all-or_else : (P : A → Type 0) (xs : List A) (d : A) → AllByRecursion P xs → P d → AllByRecursion P (or_else xs d)
  unfolding or_else
  all-or_else P [] d h k = (k, tt)
  all-or_else P (x ∷ xs) d h k = h

  pub all_any : (P : A → Type 0) (xs : List A) → ((x : A) → P x) → AllByRecursion P xs
  all_any P [] h = tt
  all_any P (x ∷ xs) h = (h x, all_any P xs h)

  pub all_two : (P Q R : A → Type 0) → ((x : A) → P x → Q x → R x) → (xs : List A) → AllByRecursion P xs → AllByRecursion Q xs → AllByRecursion R xs
  all_two P Q R f [] h k = tt
  all_two P Q R f (x ∷ xs) h k = (f x h.0 k.0, all_two P Q R f xs h.1 k.1)

  pub map_back : {B : Type 0} (f : B → A) (g : A → B) (xs : List A) → AllByRecursion (λ x. f (g x) ≡ x) xs → xs ≡ map f (map g xs)
  map_back f g [] h = refl
  map_back f g (x ∷ xs) h = let p = h.0 in let q = map_back f g xs h.1 in cc

  pub all-forall : {I : Type 0} (P : I → A → Type 0) (xs : List A) → ((i : I) → AllByRecursion (P i) xs) → AllByRecursion (λ x. (i : I) → P i x) xs
  all-forall P [] h = tt
  all-forall P (x ∷ xs) h = (λ i. (h i).0, all-forall P xs (λ i. (h i).1))

pub all_of_map : {A B : Type 0} (P : B → Type 0) (f : A → B) (xs : List A) → AllByRecursion P (map f xs) → AllByRecursion (λ x. P (f x)) xs
all_of_map P f [] h = tt
all_of_map P f (x ∷ xs) h = (h.0, all_of_map P f xs h.1)

pub map_same : {A : Type 0} (f : A → A) (xs : List A) → AllByRecursion (λ x. f x ≡ x) xs → map f xs ≡ xs
map_same f [] h = refl
map_same f (x ∷ xs) h = let p = h.0 in let q = map_same f xs h.1 in cc

pub all_split : {A : Type 0} (Q : A → Type 0) (xs ys : List A) → AllByRecursion Q (xs ++ ys) → AllByRecursion Q xs × AllByRecursion Q ys
all_split Q [] ys h = (tt, h)
all_split Q (x ∷ xs) ys h = let a = all_split Q xs ys h.1 in ((h.0, a.0), a.1)
