-- The highest number among names, over lists of lists of names; and over trees that are built one over the others.
use Rattle.std.proofs.Common.{◌≡◌, ℕ, zero, suc, ◌+◌, ◌<◌, ◌≤◌, min, max, List, [], ◌∷◌, ◌++◌, map, length, get_or, take, sym, refl, ap, ◌∙◌, subst, arith}
use Rattle.std.specs.List.{flat_map}
use Rattle.std.proofs.lemmas.Grind.{flat_map-append}
use Rattle.std.proofs.lemmas.List.{get_or_at, length_push, take_all, take_more}
use Rattle.plan.specs.Names.{Name, number_of}
use Rattle.plan.specs.Terms.{Field}
use Rattle.rewriting.specs.Generated.{highest}
use Rattle.table.specs.Fold.{built}
use Rattle.table.proofs.Folds.{built-keep}

pub highest-from : (n : ℕ) (xs : List Name) → highest n xs ≡ max n (highest 0 xs)
unfolding highest
highest-from n [] = omega arith
highest-from n (x ∷ xs) = let a = highest-from (max n (number_of x)) xs in let b = highest-from (max 0 (number_of x)) xs in omega arith

pub highest-none : highest 0 [] ≡ 0
unfolding highest
highest-none = refl

pub highest-more : (x : Name) (xs : List Name) → highest 0 (x ∷ xs) ≡ max (number_of x) (highest 0 xs)
unfolding highest
highest-more x xs = let a = highest-from (max 0 (number_of x)) xs in omega arith

pub highest-one : (x : Name) → highest 0 (x ∷ []) ≡ number_of x
highest-one x = omega (arith, highest-more x [], highest-none)

pub highest-append : (xs ys : List Name) → highest 0 (xs ++ ys) ≡ max (highest 0 xs) (highest 0 ys)
highest-append [] ys = omega (arith, highest-none)
highest-append (x ∷ xs) ys = omega (arith, highest-more x (xs ++ ys), highest-more x xs, highest-append xs ys)

-- no higher than m
module _ (m : ℕ) where
  pub none-above : highest 0 [] ≤ m
  none-above = omega (arith, highest-none)

  pub both-below : (xs ys : List Name) → highest 0 xs ≤ m → highest 0 ys ≤ m → highest 0 (xs ++ ys) ≤ m
  both-below xs ys h k = omega (arith, highest-append xs ys)

  pub first-below : (xs ys : List Name) → highest 0 (xs ++ ys) ≤ m → highest 0 xs ≤ m
  first-below xs ys h = omega (arith, highest-append xs ys)

  pub second-below : (xs ys : List Name) → highest 0 (xs ++ ys) ≤ m → highest 0 ys ≤ m
  second-below xs ys h = omega (arith, highest-append xs ys)

  module _ {T : Type 0} (names : T → List Name) (d : T) (none : highest 0 (names d) ≤ m) where
    pub at-below : (ts : List T) (i : ℕ) → highest 0 (flat_map names ts) ≤ m → highest 0 (names (get_or ts i d)) ≤ m
    at-below [] i h = none
    at-below (t ∷ ts) zero h = first-below (names t) (flat_map names ts) h
    at-below (t ∷ ts) (suc i) h = at-below ts i (second-below (names t) (flat_map names ts) h)

    pub picked-below : (ts : List T) (is : List ℕ) → highest 0 (flat_map names ts) ≤ m → highest 0 (flat_map names (map (λ i. get_or ts i d) is)) ≤ m
    picked-below ts [] h = none-above
    picked-below ts (i ∷ is) h = both-below (names (get_or ts i d)) _ (at-below ts i h) (picked-below ts is h)

  -- a tree's names are its own and those of trees before it
  module _ {N T : Type 0} (f : List T → N → T) (names own : T → List Name) (d : T) (none : highest 0 (own d) ≤ m)
      (step : (ts : List T) (n : N) → highest 0 (flat_map names ts) ≤ m → highest 0 (own (f ts n)) ≤ m → highest 0 (names (f ts n)) ≤ m) where
    built-from-below : (ns : List N) (ts : List T) → highest 0 (flat_map names ts) ≤ m → highest 0 (flat_map own (built f ts ns)) ≤ m → highest 0 (flat_map names (built f ts ns)) ≤ m
    built-from-below [] ts h k = h
    built-from-below (n ∷ ns) ts h k =
        let t = f ts n in
        let us = ts ++ t ∷ [] in
        let is : get_or (built f us ns) (length ts) d ≡ t = built-keep f ns us d (length ts) (omega (arith, length_push ts t)) ∙ get_or_at ts t [] d (length ts) refl in
        let here : highest 0 (own t) ≤ m = subst (λ x. highest 0 (own x) ≤ m) is (at-below own d none (built f us ns) (length ts) k) in
        let one : highest 0 (flat_map names (t ∷ [])) ≤ m = both-below (names t) [] (step ts n h here) none-above in
        built-from-below ns us (subst (λ xs. highest 0 xs ≤ m) (sym (flat_map-append names ts (t ∷ []))) (both-below (flat_map names ts) (flat_map names (t ∷ [])) h one)) k

    pub built-below : (ns : List N) → highest 0 (flat_map own (built f [] ns)) ≤ m → highest 0 (flat_map names (built f [] ns)) ≤ m
    built-below ns h = built-from-below ns [] none-above h

pub all-below : {T : Type 0} (own names : T → List Name) → ((t : T) → highest 0 (own t) ≤ highest 0 (names t)) → (ts : List T) → highest 0 (flat_map own ts) ≤ highest 0 (flat_map names ts)
all-below own names h [] = omega arith
all-below own names h (t ∷ ts) = omega (arith, highest-append (own t) (flat_map own ts), highest-append (names t) (flat_map names ts), h t, all-below own names h ts)

-- one turn of a loop, where numbers are capped at c
pub capped-turn : {T : Type 0} (c : ℕ) (own : T → List Name) (ts : List T) (i n k r : ℕ) (d : T) → i < length ts
    → n ≡ min (highest 0 (flat_map own (take i ts))) c → k ≡ min (highest 0 (own (get_or ts i d))) c → r ≡ max n k → r ≡ min (highest 0 (flat_map own (take (i + 1) ts))) c
capped-turn c own ts i n k r d lt h e s =
    let t = get_or ts i d in
    let all : highest 0 (flat_map own (take (i + 1) ts)) ≡ max (highest 0 (flat_map own (take i ts))) (highest 0 (flat_map own (t ∷ []))) =
    ap (λ xs. highest 0 (flat_map own xs)) (take_more ts i d lt) ∙ ap (highest 0) (flat_map-append own (take i ts) (t ∷ [])) ∙ highest-append (flat_map own (take i ts)) (flat_map own (t ∷ [])) in
    let one : highest 0 (flat_map own (t ∷ [])) ≡ max (highest 0 (own t)) (highest 0 []) = highest-append (own t) [] in
    omega (arith, highest-none)

pub capped-end : {T : Type 0} (c : ℕ) (own : T → List Name) (ts : List T) (i n : ℕ) → length ts ≤ i → n ≡ min (highest 0 (flat_map own (take i ts))) c → n ≡ min (highest 0 (flat_map own ts)) c
capped-end c own ts i n le h = h ∙ ap (λ xs. min (highest 0 (flat_map own xs)) c) (take_all i ts le)

-- a field's name, as a list
abbrev pub one_name : Field → List Name
one_name f = f.name ∷ []
