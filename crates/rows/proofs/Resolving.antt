-- What questions 6 and 7 tell: a reference that resolves in a lawful list means one field of it.
use Rattle.std.proofs.Common.{◌≡◌, ℕ, zero, suc, ◌+◌, ◌<◌, Bool, true, false, cond, not, ◌||◌, T, List, [], ◌∷◌, ◌++◌, length, count_by, sym, refl, ap, ◌∙◌, subst, suc-le-suc, zero-le, le_of_suc-le-suc, not-suc-le-zero, arith, eqb→eq}
use mir.Facts.{and_yes, yes_and}
use Rattle.std.proofs.ByRecursion.{All-from_get_or}
use Rattle.std.proofs.lemmas.List.Sums.{sum_by-cons}
use Rattle.std.specs.List.{AllByRecursion}
use Rattle.std.specs.Str.{bytes_eq}
use Rattle.plan.specs.Fields.{any, clash, every, lawful, named, resolved, resolves}
use Rattle.plan.specs.Names.{Name}
use Rattle.plan.specs.Rendering.{unqualified_field}
use Rattle.plan.specs.Terms.{Expr, Exprs, Field, Qualifier, is_unqualified, references_of, references_of_all, same_field, same_qualifier}
use Rattle.plan.specs.Terms.Expr.{alias, call, literal, reference}
use Rattle.plan.specs.Terms.Exprs.{more, none}
use Rattle.plan.specs.Terms.Qualifier.{qualified, unqualified}
use Rattle.rows.proofs.Finds.{known-means, mean-refl, name-eq, name-refl}
use Rattle.rows.proofs.Nulls.{or_left, or_right}
use Rattle.rows.specs.Rows.{may_mean, under}
use Rattle.rows.specs.Standing.{Known, Knowns, Lawful, at}

-- two fields of which one may mean the other clash
qualifier-clash : (a b : Qualifier) → T (under a b) → T (same_qualifier b a || (is_unqualified b || is_unqualified a))
unfolding under
qualifier-clash unqualified unqualified h = tt
qualifier-clash unqualified (qualified b) h = tt
qualifier-clash (qualified a) unqualified h = absurd h
qualifier-clash (qualified a) (qualified b) h = or_left (bytes_eq b a) _ (rw (name-eq a b h) (name-refl b))

clash-behind : (f g : Field) → T (may_mean g f) → T (clash f g)
unfolding may_mean
clash-behind f g h =
    let a = and_yes (under g.qualifier f.qualifier) (bytes_eq g.name f.name) h in
    yes_and (bytes_eq f.name g.name) _ (rw (name-eq g.name f.name a.1) (name-refl f.name)) (qualifier-clash g.qualifier f.qualifier a.0)

qualifier-clash' : (a b : Qualifier) → T (under a b) → T (same_qualifier a b || (is_unqualified a || is_unqualified b))
unfolding under
qualifier-clash' unqualified unqualified h = tt
qualifier-clash' unqualified (qualified b) h = tt
qualifier-clash' (qualified a) unqualified h = absurd h
qualifier-clash' (qualified a) (qualified b) h = or_left (bytes_eq a b) _ h

clash-before : (f g : Field) → T (may_mean f g) → T (clash f g)
unfolding may_mean
clash-before f g h =
    let a = and_yes (under f.qualifier g.qualifier) (bytes_eq f.name g.name) h in
    yes_and (bytes_eq f.name g.name) _ a.1 (qualifier-clash' f.qualifier g.qualifier a.0)

pub any_at : (p : Field → Bool) (fs : List Field) (j : ℕ) → j < length fs → T (p (at fs j)) → T (any p fs)
any_at p [] j h k = absurd (not-suc-le-zero h)
any_at p (f ∷ fs) zero h k = or_left (p f) (any p fs) k
any_at p (f ∷ fs) (suc j) h k = or_right (p f) (any p fs) (any_at p fs j (le_of_suc-le-suc h) k)

refuted : (b : Bool) → T (not b) → T b → ⊥
refuted true h k = h
refuted false h k = k

-- in a lawful list a field means itself alone
pub lawful-sole : (fs : List Field) → T (lawful fs) → (i j : ℕ) → i < length fs → j < length fs → T (may_mean (at fs i) (at fs j)) → j ≡ i
lawful-sole [] l i j hi hj m = absurd (not-suc-le-zero hi)
lawful-sole (f ∷ fs) l zero zero hi hj m = refl
lawful-sole (f ∷ fs) l zero (suc j) hi hj m =
    let a = and_yes (not (any (clash f) fs)) (lawful fs) l in
    absurd (refuted (any (clash f) fs) a.0 (any_at (clash f) fs j (le_of_suc-le-suc hj) (clash-before f (at fs j) m)))
lawful-sole (f ∷ fs) l (suc i) zero hi hj m =
    let a = and_yes (not (any (clash f) fs)) (lawful fs) l in
    absurd (refuted (any (clash f) fs) a.0 (any_at (clash f) fs i (le_of_suc-le-suc hi) (clash-behind f (at fs i) m)))
lawful-sole (f ∷ fs) l (suc i) (suc j) hi hj m =
    let a = and_yes (not (any (clash f) fs)) (lawful fs) l in
    ap suc (lawful-sole fs a.1 i j (le_of_suc-le-suc hi) (le_of_suc-le-suc hj) m)

pub lawful-true : (fs : List Field) → T (lawful fs) → Lawful fs
lawful-true fs l =
    All-from_get_or _ fs (unqualified_field [])
    (λ i hi. known-means {i = i} (record { inside = hi; meant = mean-refl (at fs i); sole = λ j hj m. lawful-sole fs l i j hi hj m }))

count-cons : (n : Name) (f : Field) (fs : List Field) → count_by (named n) (f ∷ fs) ≡ cond (named n f) 1 0 + count_by (named n) fs
count-cons n f fs = sum_by-cons (λ x. cond (named n x) 1 0) f fs

-- a count of names: none, or exactly one
none_named : (n : Name) (fs : List Field) → count_by (named n) fs ≡ 0 → (j : ℕ) → j < length fs → T (named n (at fs j)) → ⊥
none_named n [] e j h k = not-suc-le-zero h
none_named n (f ∷ fs) e j h k = go (named n f) refl (sym (count-cons n f fs) ∙ e) j h k (λ e j h k. none_named n fs e j h k)
  where
    go : (b : Bool) → named n f ≡ b → cond b 1 0 + count_by (named n) fs ≡ 0 → (j : ℕ) → j < length (f ∷ fs) → T (named n (at (f ∷ fs) j))
        → (count_by (named n) fs ≡ 0 → (j : ℕ) → j < length fs → T (named n (at fs j)) → ⊥) → ⊥
    go true p e j h k ih = omega arith
    go false p e zero h k ih = subst T p k
    go false p e (suc j) h k ih = ih (omega arith) j (le_of_suc-le-suc h) k

one-named : (n : Name) (fs : List Field) → count_by (named n) fs ≡ 1
    → (i : ℕ) × (i < length fs) × T (named n (at fs i)) × ((j : ℕ) → j < length fs → T (named n (at fs j)) → j ≡ i)
one-named n [] e = absurd (omega arith)
one-named n (f ∷ fs) e = go (named n f) refl (sym (count-cons n f fs) ∙ e) (λ e. one-named n fs e)
  where
    Found : List Field → Type 0
    Found fs = (i : ℕ) × (i < length fs) × T (named n (at fs i)) × ((j : ℕ) → j < length fs → T (named n (at fs j)) → j ≡ i)

    go : (b : Bool) → named n f ≡ b → cond b 1 0 + count_by (named n) fs ≡ 1 → (count_by (named n) fs ≡ 1 → Found fs) → Found (f ∷ fs)
    go true p e ih = (0, suc-le-suc zero-le, subst T (sym p) tt, only)
      where
        only : (j : ℕ) → j < length (f ∷ fs) → T (named n (at (f ∷ fs) j)) → j ≡ 0
        only zero h k = refl
        only (suc j) h k = absurd (none_named n fs (omega arith) j (le_of_suc-le-suc h) k)
    go false p e ih = let m = ih (omega arith) in (suc m.0, suc-le-suc m.1, m.2, only m.0 m.3)
      where
        only : (i : ℕ) → ((j : ℕ) → j < length fs → T (named n (at fs j)) → j ≡ i) → (j : ℕ) → j < length (f ∷ fs) → T (named n (at (f ∷ fs) j)) → j ≡ suc i
        only i s zero h k = absurd (subst T p k)
        only i s (suc j) h k = ap suc (s j (le_of_suc-le-suc h) k)

-- the place of a field that a test finds
pub any_place : (p : Field → Bool) (fs : List Field) → T (any p fs) → (i : ℕ) × (i < length fs) × T (p (at fs i))
any_place p [] h = absurd h
any_place p (f ∷ fs) h = go (p f) refl h (λ k. any_place p fs k)
  where
    Found : List Field → Type 0
    Found fs = (i : ℕ) × (i < length fs) × T (p (at fs i))

    go : (b : Bool) → p f ≡ b → T (b || any p fs) → (T (any p fs) → Found fs) → Found (f ∷ fs)
    go true q h ih = (0, suc-le-suc zero-le, subst T (sym q) tt)
    go false q h ih = let m = ih h in (suc m.0, suc-le-suc m.1, m.2)

qualifier-eq : (a b : Qualifier) → T (same_qualifier a b) → a ≡ b
qualifier-eq unqualified unqualified h = refl
qualifier-eq unqualified (qualified b) h = absurd h
qualifier-eq (qualified a) unqualified h = absurd h
qualifier-eq (qualified a) (qualified b) h = ap qualified (name-eq a b h)

pub field-eq : (f g : Field) → T (same_field f g) → f ≡ g
field-eq f g h =
    let k = and_yes (same_qualifier f.qualifier g.qualifier) (bytes_eq f.name g.name) h in
    let p = qualifier-eq f.qualifier g.qualifier k.0 in
    let q = name-eq f.name g.name k.1 in
    λ i. record { qualifier = p i; name = q i }

resolves-means : (fs : List Field) → T (lawful fs) → (q : Qualifier) (n : Name) → T (resolves fs (record { qualifier = q; name = n })) → Known fs (reference (record { qualifier = q; name = n }))
unfolding may_mean under
resolves-means fs l unqualified n h =
    let m = one-named n fs (eqb→eq (count_by (named n) fs) 1 h) in
    known-means {i = m.0} (record { inside = m.1; meant = m.2; sole = m.3 })
resolves-means fs l (qualified q) n h =
    let r : Field = record { qualifier = qualified q; name = n } in
    let m = any_place (same_field r) fs h in
    let e = field-eq r (at fs m.0) m.2 in
    known-means {i = m.0} (record {
      inside = m.1;
      meant = subst (λ (f : Field). T (may_mean r f)) e (mean-refl r);
      sole = λ j hj k. lawful-sole fs l m.0 j m.1 hj (subst (λ (f : Field). T (may_mean f (at fs j))) e k);
    })

pub reference-known : (fs : List Field) → T (lawful fs) → (r : Field) → T (resolves fs r) → Known fs (reference r)
reference-known fs l r h = resolves-means fs l r.qualifier r.name h

every_append : (p : Field → Bool) (xs ys : List Field) → T (every p (xs ++ ys)) → T (every p xs) × T (every p ys)
every_append p [] ys h = (tt, h)
every_append p (x ∷ xs) ys h =
    let a = and_yes (p x) (every p (xs ++ ys)) h in
    let b = every_append p xs ys a.1 in
    (yes_and (p x) (every p xs) a.0 b.0, b.1)

-- and so does every reference of an expression
module _ (fs : List Field) (l : T (lawful fs)) where
  mutual
    pub resolved-known : (e : Expr) → T (resolved fs e) → Known fs e
    resolved-known (literal v) h = tt
    resolved-known (reference r) h = reference-known fs l r (and_yes (resolves fs r) true h).0
    resolved-known (alias e f) h = resolved-known e h
    resolved-known (call n es) h = resolveds-known es h

    resolveds-known : (es : Exprs) → T (every (resolves fs) (references_of_all es)) → Knowns fs es
    resolveds-known none h = tt
    resolveds-known (more e es) h =
        let a = every_append (resolves fs) (references_of e) (references_of_all es) h in
        (resolved-known e a.0, resolveds-known es a.1)

  pub all-resolved : (es : List Expr) → T (every (resolved fs) es) → AllByRecursion (Known fs) es
  all-resolved [] h = tt
  all-resolved (e ∷ es) h = let a = and_yes (resolved fs e) (every (resolved fs) es) h in (resolved-known e a.0, all-resolved es a.1)
