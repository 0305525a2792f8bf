-- A join's rows, when both sides are mapped.
use Rattle.std.proofs.Common.{◌≡◌, ℕ, Bool, true, false, cond, not, List, [], ◌∷◌, ◌++◌, map, refl, ap}
use Rattle.std.proofs.ByRecursion.{All-weaker}
use Rattle.std.specs.List.{AllByRecursion}
use Rattle.plan.specs.Fields.{any, every}
use Rattle.rows.proofs.Lists.{all_keep, map-append}
use Rattle.rows.specs.Lists.{each, keep, or_else}
use Rattle.rows.specs.Rows.{lone, nulls, pairs, pairs_padded}
use Rattle.rows.specs.Worlds.{Row}

module _ {A B : Type 0} where
  keep-map-on : (g : A → B) (p : A → Bool) (q : B → Bool) (xs : List A) → AllByRecursion (λ x. q (g x) ≡ p x) xs → keep q (map g xs) ≡ map g (keep p xs)
  unfolding keep
  keep-map-on g p q [] e = refl
  keep-map-on g p q (x ∷ xs) e = rw e.0 (go (p x) (keep-map-on g p q xs e.1))
    where
      go : (b : Bool) → keep q (map g xs) ≡ map g (keep p xs) → cond b (g x ∷ keep q (map g xs)) (keep q (map g xs)) ≡ map g (cond b (x ∷ keep p xs) (keep p xs))
      go true h = ap (λ (r : List B). g x ∷ r) h
      go false h = h

  any-map-on : (g : A → B) (p : A → Bool) (q : B → Bool) (xs : List A) → AllByRecursion (λ x. q (g x) ≡ p x) xs → any q (map g xs) ≡ any p xs
  any-map-on g p q [] e = refl
  any-map-on g p q (x ∷ xs) e = let a = e.0 in let b = any-map-on g p q xs e.1 in cc

  each-map-on : {C : Type 0} {D : Type 0} (f : A → B) (h : C → D) (F : B → List D) (G : A → List C) (xs : List A) → AllByRecursion (λ x. F (f x) ≡ map h (G x)) xs
      → each F (map f xs) ≡ map h (each G xs)
  unfolding each
  each-map-on f h F G [] e = refl
  each-map-on f h F G (x ∷ xs) e =
      let a = e.0 in
      let b = each-map-on f h F G xs e.1 in
      let c = map-append h (G x) (each G xs) in
      cc

  map-both-on : {C : Type 0} {D : Type 0} (k : B → D) (g : A → B) (h : C → D) (j : A → C) (xs : List A) → AllByRecursion (λ x. k (g x) ≡ h (j x)) xs → map k (map g xs) ≡ map h (map j xs)
  map-both-on k g h j [] e = refl
  map-both-on k g h j (x ∷ xs) e = let a = e.0 in let b = map-both-on k g h j xs e.1 in cc

  or_else-map : (h : A → B) (xs : List A) (d : A) → or_else (map h xs) (h d) ≡ map h (or_else xs d)
  unfolding or_else
  or_else-map h [] d = refl
  or_else-map h (x ∷ xs) d = refl

pub every-on : {A : Type 0} (p q : A → Bool) (xs : List A) → AllByRecursion (λ x. p x ≡ q x) xs → every p xs ≡ every q xs
every-on p q [] e = refl
every-on p q (x ∷ xs) e = let a = e.0 in let b = every-on p q xs e.1 in cc

module _ (f g h : Row → Row) (m_p m_r : Row → Row → Bool) (QL QR : Row → Type 0) (ls rs : List Row) (hl : AllByRecursion QL ls) (hr : AllByRecursion QR rs)
    (mm : (l r : Row) → QL l → QR r → m_p (f l) (g r) ≡ m_r l r) (hh : (l r : Row) → QL l → QR r → f l ++ g r ≡ h (l ++ r)) where
  row-nat : (l : Row) → QL l → map (λ r. f l ++ r) (keep (m_p (f l)) (map g rs)) ≡ map h (map (λ r. l ++ r) (keep (m_r l) rs))
  row-nat l k =
      rw (keep-map-on g (m_r l) (m_p (f l)) rs (All-weaker _ _ (λ r j. mm l r k j) rs hr))
      (map-both-on _ g h _ (keep (m_r l) rs) (All-weaker _ _ (λ r j. hh l r k j) (keep (m_r l) rs) (all_keep _ (m_r l) rs hr)))

  pub pairs-nat : pairs m_p (map f ls) (map g rs) ≡ map h (pairs m_r ls rs)
  unfolding pairs
  pairs-nat = each-map-on f h _ _ ls (All-weaker _ _ row-nat ls hl)

  pub pairs_padded-nat : (b b' : ℕ) → ((l : Row) → QL l → f l ++ nulls b' ≡ h (l ++ nulls b)) → pairs_padded m_p b' (map f ls) (map g rs) ≡ map h (pairs_padded m_r b ls rs)
  unfolding pairs_padded
  pairs_padded-nat b b' pad = each-map-on f h _ _ ls (All-weaker QL _ padded ls hl)
    where
      padded : (l : Row) → QL l
          → or_else (map (λ r. f l ++ r) (keep (m_p (f l)) (map g rs))) (f l ++ nulls b') ≡ map h (or_else (map (λ r. l ++ r) (keep (m_r l) rs)) (l ++ nulls b))
      padded l k = rw (row-nat l k, pad l k) (or_else-map h _ (l ++ nulls b))

  left-any : (l : Row) → QL l → any (m_p (f l)) (map g rs) ≡ any (m_r l) rs
  left-any l k = any-map-on g (m_r l) (m_p (f l)) rs (All-weaker _ _ (λ r j. mm l r k j) rs hr)

  right-any : (r : Row) → QR r → any (λ l. m_p l (g r)) (map f ls) ≡ any (λ l. m_r l r) ls
  right-any r k = any-map-on f (λ l. m_r l r) (λ l. m_p l (g r)) ls (All-weaker _ _ (λ l j. mm l r j k) ls hl)

  pub lone-nat : (a a' : ℕ) → ((r : Row) → QR r → nulls a' ++ g r ≡ h (nulls a ++ r)) → lone m_p a' (map f ls) (map g rs) ≡ map h (lone m_r a ls rs)
  unfolding lone
  lone-nat a a' pad =
      rw (keep-map-on g (λ r. not (any (λ l. m_r l r) ls)) (λ r. not (any (λ l. m_p l r) (map f ls))) rs (All-weaker _ _ (λ r k. ap not (right-any r k)) rs hr))
      (map-both-on _ g h _ _ (All-weaker _ _ pad _ (all_keep _ _ rs hr)))

  pub left-nat : (t : Bool → Bool) → keep (λ l. t (any (m_p l) (map g rs))) (map f ls) ≡ map f (keep (λ l. t (any (m_r l) rs)) ls)
  left-nat t = keep-map-on f _ _ ls (All-weaker _ _ (λ l k. ap t (left-any l k)) ls hl)

  pub right-nat : (t : Bool → Bool) → keep (λ r. t (any (λ l. m_p l r) (map f ls))) (map g rs) ≡ map g (keep (λ r. t (any (λ l. m_r l r) ls)) rs)
  right-nat t = keep-map-on g _ _ rs (All-weaker _ _ (λ r k. ap t (right-any r k)) rs hr)
