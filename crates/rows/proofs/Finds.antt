-- References and the fields that they mean.
use Rattle.std.proofs.Common.{◌≡◌, ℕ, zero, suc, ◌<◌, Bool, true, false, cond, T, eqb, List, [], ◌∷◌, length, get_or, sym, refl, ap, ◌∙◌, subst, suc-le-suc, zero-le, le_of_suc-le-suc, not-suc-le-zero, eqb→eq}
use lib.Dec.{eqb_refl}
use mir.Facts.{and_yes, yes_and}
use Rattle.std.specs.Str.{bytes_eq}
use Rattle.plan.specs.Functions.{Functions}
use Rattle.plan.specs.Names.{Name}
use Rattle.plan.specs.Terms.{Expr, Exprs, Field, Qualifier}
use Rattle.plan.specs.Terms.Expr.{alias, call, literal, reference}
use Rattle.plan.specs.Terms.Exprs.{more, none}
use Rattle.plan.specs.Terms.Qualifier.{qualified, unqualified}
use Rattle.plan.specs.Values.{null}
use Rattle.rows.proofs.Words.{eval, evals}
use Rattle.rows.specs.Rows.{may_mean, seek, under, value_in}
use Rattle.rows.specs.Standing.{Covers, Known, Knowns, Means, at, pick}
use Rattle.rows.specs.Worlds.{Fitting, Row, applied}

pub name-refl : (n : Name) → T (bytes_eq n n)
name-refl [] = tt
name-refl (a ∷ n) = yes_and (eqb a a) (bytes_eq n n) (eqb_refl a) (name-refl n)

pub name-eq : (m n : Name) → T (bytes_eq m n) → m ≡ n
name-eq [] [] h = refl
name-eq [] (b ∷ n) h = absurd h
name-eq (a ∷ m) [] h = absurd h
name-eq (a ∷ m) (b ∷ n) h =
    let k = and_yes (eqb a b) (bytes_eq m n) h in
    let p = eqb→eq a b k.0 in
    let q = name-eq m n k.1 in
    cc

under-refl : (q : Qualifier) → T (under q q)
unfolding under
under-refl unqualified = tt
under-refl (qualified a) = name-refl a

under-trans : (a b c : Qualifier) → T (under a b) → T (under b c) → T (under a c)
unfolding under
under-trans unqualified b c h k = tt
under-trans (qualified a) unqualified c h k = absurd h
under-trans (qualified a) (qualified b) unqualified h k = absurd k
under-trans (qualified a) (qualified b) (qualified c) h k = rw (name-eq a b h) k

pub mean-refl : (f : Field) → T (may_mean f f)
unfolding may_mean
mean-refl f = yes_and _ _ (under-refl f.qualifier) (name-refl f.name)

pub mean-trans : (a b c : Field) → T (may_mean a b) → T (may_mean b c) → T (may_mean a c)
unfolding may_mean
mean-trans a b c h k =
    let x = and_yes (under a.qualifier b.qualifier) (bytes_eq a.name b.name) h in
    let y = and_yes (under b.qualifier c.qualifier) (bytes_eq b.name c.name) k in
    yes_and _ _ (under-trans a.qualifier b.qualifier c.qualifier x.0 y.0) (rw (name-eq a.name b.name x.1) y.1)

-- the first field that fits is there if any is
seek-at : (r : Field) (fs : List Field) (i : ℕ) → i < length fs → T (may_mean r (at fs i)) → (seek r fs < length fs) × T (may_mean r (at fs (seek r fs)))
unfolding seek
seek-at r [] i h k = absurd (not-suc-le-zero h)
seek-at r (f ∷ fs) i h k = go (may_mean r f) refl i h k (λ i h k. seek-at r fs i h k)
  where
    Here : ℕ → Type 0
    Here n = (n < length (f ∷ fs)) × T (may_mean r (at (f ∷ fs) n))

    go : (b : Bool) → may_mean r f ≡ b → (i : ℕ) → i < length (f ∷ fs) → T (may_mean r (at (f ∷ fs) i))
        → ((i : ℕ) → i < length fs → T (may_mean r (at fs i)) → (seek r fs < length fs) × T (may_mean r (at fs (seek r fs)))) → Here (cond b 0 (suc (seek r fs)))
    go true e i h k ih = (suc-le-suc zero-le, subst T (sym e) tt)
    go false e zero h k ih = absurd (subst T e k)
    go false e (suc i) h k ih = let s = ih i (le_of_suc-le-suc h) k in (suc-le-suc s.0, s.1)

-- what a reference means is what is found first
pub seek-means : {r : Field} {fs : List Field} {i : ℕ} → Means r fs i → seek r fs ≡ i
seek-means {r} {fs} {i} m = let s = seek-at r fs i m.inside m.meant in m.sole (seek r fs) s.0 s.1

pub known-means : {r : Field} {fs : List Field} {i : ℕ} → Means r fs i → Known fs (reference r)
known-means {r} {fs} m = rw (seek-means m) m

-- a place of the plan stood for, in the plan that stands
pub covers_at : (rs : List Field) (σ : List ℕ) (ps : List Field) → Covers rs σ ps → (i : ℕ) → i < length ps
    → (i < length σ) × (get_or σ i 0 < length rs) × T (may_mean (at ps i) (at rs (get_or σ i 0)))
covers_at rs [] [] c i h = absurd (not-suc-le-zero h)
covers_at rs [] (p ∷ ps) c i h = absurd c
covers_at rs (k ∷ σ) [] c i h = absurd c
covers_at rs (k ∷ σ) (p ∷ ps) c zero h = (suc-le-suc zero-le, c.0, c.1)
covers_at rs (k ∷ σ) (p ∷ ps) c (suc i) h = let s = covers_at rs σ ps c.2 i (le_of_suc-le-suc h) in (suc-le-suc s.0, s.1, s.2)

pub covers-length : (rs : List Field) (σ : List ℕ) (ps : List Field) → Covers rs σ ps → length σ ≡ length ps
covers-length rs [] [] c = refl
covers-length rs [] (p ∷ ps) c = absurd c
covers-length rs (k ∷ σ) [] c = absurd c
covers-length rs (k ∷ σ) (p ∷ ps) c = ap suc (covers-length rs σ ps c.2)

pub pick_at : (σ : List ℕ) (row : Row) (i : ℕ) → i < length σ → get_or (pick σ row) i null ≡ get_or row (get_or σ i 0) null
unfolding pick
pick_at [] row i h = absurd (not-suc-le-zero h)
pick_at (k ∷ σ) row zero h = refl
pick_at (k ∷ σ) row (suc i) h = pick_at σ row i (le_of_suc-le-suc h)

module _ {F : Functions} where
  -- expressions whose references are known on both sides have one value
  module _ (W : Fitting F) (rs : List Field) (σ : List ℕ) (ps : List Field) (c : Covers rs σ ps) (row : Row) where
    ref-alike : (r : Field) → Known ps (reference r) → Known rs (reference r) → get_or (pick σ row) (seek r ps) null ≡ get_or row (seek r rs) null
    ref-alike r kp kr =
        let i = seek r ps in
        let s = covers_at rs σ ps c i kp.inside in
        let e = kr.sole (get_or σ i 0) s.1 (mean-trans r (at ps i) (at rs (get_or σ i 0)) kp.meant s.2) in
        pick_at σ row i s.0 ∙ ap (λ (k : ℕ). get_or row k null) e

    mutual
      unfolding value_in

      pub eval-alike : (e : Expr) → Known ps e → Known rs e → eval W ps (pick σ row) e ≡ eval W rs row e
      eval-alike (reference r) kp kr = ref-alike r kp kr
      eval-alike (literal v) kp kr = refl
      eval-alike (alias e f) kp kr = eval-alike e kp kr
      eval-alike (call n es) kp kr = ap (applied W.world n) (evals-alike es kp kr)

      pub evals-alike : (es : Exprs) → Knowns ps es → Knowns rs es → evals W ps (pick σ row) es ≡ evals W rs row es
      evals-alike none kp kr = refl
      evals-alike (more e es) kp kr =
          let p = eval-alike e kp.0 kr.0 in
          let q = evals-alike es kp.1 kr.1 in
          cc
