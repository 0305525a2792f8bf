-- Where a reference finds its field.
use Rattle.std.proofs.Common.{◌≡◌, ℕ, suc, ◌+◌, ◌<◌, ◌≤◌, Bool, true, false, cond, not, ltb, ◌&&◌, ◌||◌, List, [], ◌∷◌, map, length, Some, None, count_by, sym, refl, ap, ◌∙◌, arith}
use Rattle.std.specs.Str.{bytes_eq}
use Rattle.std.specs.Option.{unwrap_or}
use Rattle.std.specs.List.{position_or_len}
use Rattle.std.proofs.lemmas.List.{length-map}
use Rattle.std.proofs.lemmas.List.Recursion.{is_position_or_len}
use Rattle.std.proofs.lemmas.List.Sums.{prefix_len-le-length, sum_by-cons}
use Rattle.std.proofs.lemmas.Bool.{and_parts, eqb-true, false≢true, ltb-false}
use Rattle.plan.specs.Fields.{any, named, resolved, resolves}
use Rattle.plan.specs.Names.{Name}
use Rattle.plan.specs.Terms.{Expr, Field, Qualifier, same_field, same_qualifier}
use Rattle.plan.specs.Terms.Qualifier.{qualified, unqualified}
use Rattle.plan.specs.Terms.Expr.{reference}
use Rattle.rows.specs.Rows.{may_mean, seek, under}

pub means-by : (r f : Field) → may_mean r f ≡ (under r.qualifier f.qualifier && bytes_eq r.name f.name)
unfolding may_mean
means-by r f = refl

-- what `position` answers, and the number of items where it finds none
pub seek-position : {X : Type 0} (r : Field) (f : X → Field) (xs : List X)
    → unwrap_or (cond (ltb (position_or_len (λ x. may_mean r (f x)) xs) (length xs)) (Some (position_or_len (λ x. may_mean r (f x)) xs)) None) (length xs) ≡ seek r (map f xs)
unfolding seek
seek-position r f xs =
    let p = position_or_len (λ x. may_mean r (f x)) xs in
    let le : p ≤ length xs = prefix_len-le-length (λ x. not (may_mean r (f x))) xs in
    go p (length xs) le (ltb p (length xs)) refl
    ∙ sym (is_position_or_len (λ ys. seek r (map f ys)) (λ x. may_mean r (f x)) refl (λ x ys. ap (λ k. cond (may_mean r (f x)) 0 k) (omega arith)) xs)
  where
    go : (p n : ℕ) → p ≤ n → (b : Bool) → ltb p n ≡ b → unwrap_or (cond b (Some p) None) n ≡ p
    go p n le true e = refl
    go p n le false e = omega (arith, le, ltb-false p n e)

module _ (r : Field) where
  -- where a field may be meant, one is found
  found : (fs : List Field) → any (may_mean r) fs ≡ true → seek r fs < length fs
  unfolding seek
  found [] h = absurd (false≢true h)
  found (f ∷ fs) h = go (may_mean r f) refl h (found fs)
    where
      go : (b : Bool) → may_mean r f ≡ b → (b || any (may_mean r) fs) ≡ true → (any (may_mean r) fs ≡ true → seek r fs < length fs) → cond b 0 (suc (seek r fs)) < suc (length fs)
      go true e h ih = omega arith
      go false e h ih = omega (arith, ih h)

some-counted : (p : Field → Bool) (fs : List Field) → count_by p fs ≡ 1 → any p fs ≡ true
some-counted p [] h = absurd (omega arith)
some-counted p (f ∷ fs) h = go (p f) refl (sym (sum_by-cons (λ x. cond (p x) 1 0) f fs) ∙ h) (some-counted p fs)
  where
    go : (b : Bool) → p f ≡ b → cond b 1 0 + count_by p fs ≡ 1 → (count_by p fs ≡ 1 → any p fs ≡ true) → (b || any p fs) ≡ true
    go true e h ih = refl
    go false e h ih = ih (omega arith)

any-alike : (p q : Field → Bool) → ((f : Field) → p f ≡ q f) → (fs : List Field) → any p fs ≡ any q fs
any-alike p q h [] = refl
any-alike p q h (f ∷ fs) = ap (λ b. b || any p fs) (h f) ∙ ap (λ b. q f || b) (any-alike p q h fs)

by_name : (n : Name) (f : Field) → named n f ≡ may_mean (record { qualifier = unqualified; name = n }) f
unfolding may_mean under
by_name n f = refl

by_field_lem : (q n : Name) (f : Field) → same_field (record { qualifier = qualified q; name = n }) f ≡ may_mean (record { qualifier = qualified q; name = n }) f
unfolding may_mean under
by_field_lem q n f = ap (λ b. b && bytes_eq n f.name) (alike f.qualifier)
  where
    alike : (o : Qualifier) → same_qualifier (qualified q) o ≡ under (qualified q) o
    alike unqualified = refl
    alike (qualified o) = refl

-- a reference that resolves finds a field
pub resolves-found : (fs : List Field) (q : Qualifier) (n : Name) → resolves fs (record { qualifier = q; name = n }) ≡ true → seek (record { qualifier = q; name = n }) fs < length fs
resolves-found fs unqualified n h =
    let r : Field = record { qualifier = unqualified; name = n } in
    found r fs (sym (any-alike (named n) (may_mean r) (by_name n) fs) ∙ some-counted (named n) fs (eqb-true (count_by (named n) fs) 1 h))
resolves-found fs (qualified q) n h =
    let r : Field = record { qualifier = qualified q; name = n } in
    found r fs (sym (any-alike (same_field r) (may_mean r) (by_field_lem q n) fs) ∙ h)

-- so does a reference of the tables, among the fields that are stored
pub reference-found : {X : Type 0} (f : X → Field) (xs : List X) {e : Expr} {r : Field} → e ≡ reference r → resolved (map f xs) e ≡ true → seek r (map f xs) < length xs
reference-found f xs {r = r} h k =
    let fs = map f xs in
    omega (arith, resolves-found fs r.qualifier r.name (and_parts (resolves fs r) true (sym (ap (resolved fs) h) ∙ k)).0, length-map xs f)
