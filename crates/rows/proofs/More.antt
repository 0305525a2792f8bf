-- Projections, totals, renamed inputs and unions; standing in two steps.
use Rattle.std.proofs.Common.{◌≡◌, ℕ, zero, suc, ◌<◌, T, List, [], ◌∷◌, map, length, get_or, refl, ap, ◌∙◌, le_of_suc-le-suc, not-suc-le-zero}
use lib.ListN.{length-map}
use mir.Facts.{and_yes, yes_and}
use Rattle.plan.specs.Functions.{Functions}
use Rattle.plan.specs.Names.{Name}
use Rattle.plan.specs.Plans.{Plan, Plans, fields_of, qualified_by, without_qualifier}
use Rattle.plan.specs.Plans.Plan.{subquery_alias, union}
use Rattle.plan.specs.Plans.Plans.{also, done}
use Rattle.plan.specs.Rendering.{unqualified_field}
use Rattle.plan.specs.Terms.{Expr, Field}
use Rattle.plan.specs.Terms.Expr.{alias, call, literal, reference}
use Rattle.rows.proofs.Finds.{covers_at, evals-alike, mean-trans, name-refl, pick_at}
use Rattle.rows.proofs.Lists.{map_with}
use Rattle.rows.proofs.Words.{further, rows}
use Rattle.rows.specs.Rows.{may_mean, rows_of, taken_by, under}
use Rattle.rows.specs.Standing.{Covers, Known, Same, Stands, at, pick}
use Rattle.rows.specs.Worlds.{Fitting, Row}

pub get_or-map-in : {A B : Type 0} (f : A → B) (l : List A) (k : ℕ) (d : B) (e : A) → k < length l → get_or (map f l) k d ≡ f (get_or l k e)
get_or-map-in f [] k d e h = absurd (not-suc-le-zero h)
get_or-map-in f (x ∷ l) zero d e h = refl
get_or-map-in f (x ∷ l) (suc k) d e h = get_or-map-in f l k d e (le_of_suc-le-suc h)

-- one renaming of both sides
pub covers-map : (φ : Field → Field) → ((f g : Field) → T (may_mean f g) → T (may_mean (φ f) (φ g))) → (rs : List Field) (σ : List ℕ) (ps : List Field)
    → Covers rs σ ps → Covers (map φ rs) σ (map φ ps)
covers-map φ m rs [] [] c = tt
covers-map φ m rs [] (p ∷ ps) c = absurd c
covers-map φ m rs (k ∷ σ) [] c = absurd c
covers-map φ m rs (k ∷ σ) (p ∷ ps) c =
    (rw (length-map rs φ) c.0, rw (get_or-map-in φ rs k (unqualified_field []) (unqualified_field []) c.0) (m p (at rs k) c.1), covers-map φ m rs σ ps c.2)

requalified : (n : Name) (f g : Field) → T (may_mean f g) → T (may_mean (qualified_by n f) (qualified_by n g))
unfolding may_mean under
requalified n f g h = yes_and _ _ (name-refl n) (and_yes _ _ h).1

module _ {F : Functions} where
  module _ {σ : List ℕ} {R P : Plan} (s : Stands F σ R P) where
    pub stands-subquery : (n : Name) → Stands F σ (subquery_alias n R) (subquery_alias n P)
    unfolding rows_of
    stands-subquery n = record { covers = covers-map _ (requalified n) (fields_of F R) σ (fields_of F P) s.covers; alike = s.alike }

    pub taken-alike : (W : Fitting F) (row : Row) (e : Expr) → Known (fields_of F P) e → Known (fields_of F R) e → taken_by W.world (fields_of F P) (pick σ row) e ≡ taken_by W.world (fields_of F R) row e
    unfolding taken_by
    taken-alike W row (reference f) kp kr = refl
    taken-alike W row (literal v) kp kr = refl
    taken-alike W row (alias e f) kp kr = taken-alike W row e kp kr
    taken-alike W row (call n es) kp kr = evals-alike W (fields_of F R) σ (fields_of F P) s.covers row es kp kr

-- unions take inputs that are the same
abbrev pub SameAll : Functions → Plans → Plans → Type 0
SameAll F done done = Unit {0}
SameAll F done (also i is) = ⊥
SameAll F (also i is) done = ⊥
SameAll F (also i is) (also j js) = Same F i j × SameAll F is js

module _ {F : Functions} where
  rows_of-same : (W : Fitting F) (n : ℕ) (is js : Plans) → SameAll F is js → further W n is ≡ further W n js
  unfolding rows_of
  rows_of-same W n done done s = refl
  rows_of-same W n done (also j js) s = absurd s
  rows_of-same W n (also i is) done s = absurd s
  rows_of-same W n (also i is) (also j js) s = let p = s.0.rows_same W in let q = rows_of-same W n is js s.1 in cc

  pub same-union : (i j : Plan) (is js : Plans) → Same F i j → SameAll F is js → Same F (union i is) (union j js)
  unfolding rows_of
  same-union i j is js s t = record {
    fields_same = ap (λ (fs : List Field). map without_qualifier fs) s.fields_same;
    rows_same = λ W. let p = s.rows_same W in let q = s.fields_same in let r = rows_of-same W (length (fields_of F i)) is js t in cc;
  }

-- R stands for Q, and Q for P
abbrev pub through : List ℕ → List ℕ → List ℕ
through σ τ = map (λ i. get_or σ i 0) τ

pub covers-through : (rs : List Field) (σ : List ℕ) (qs : List Field) (τ : List ℕ) (ps : List Field) → Covers rs σ qs → Covers qs τ ps → Covers rs (through σ τ) ps
covers-through rs σ qs [] [] c d = tt
covers-through rs σ qs [] (p ∷ ps) c d = absurd d
covers-through rs σ qs (k ∷ τ) [] c d = absurd d
covers-through rs σ qs (k ∷ τ) (p ∷ ps) c d =
    let a = covers_at rs σ qs c k d.0 in
    (a.1, mean-trans p (at qs k) (at rs (get_or σ k 0)) d.1 a.2, covers-through rs σ qs τ ps c d.2)

pub pick-through : (rs : List Field) (σ : List ℕ) (qs : List Field) (τ : List ℕ) (ps : List Field) → Covers rs σ qs → Covers qs τ ps → (row : Row)
    → pick τ (pick σ row) ≡ pick (through σ τ) row
unfolding pick
pick-through rs σ qs [] [] c d row = refl
pick-through rs σ qs [] (p ∷ ps) c d row = absurd d
pick-through rs σ qs (k ∷ τ) [] c d row = absurd d
pick-through rs σ qs (k ∷ τ) (p ∷ ps) c d row =
    let a = covers_at rs σ qs c k d.0 in
    let b = pick_at σ row k a.0 in
    let e = pick-through rs σ qs τ ps c d.2 row in
    cc

module _ {F : Functions} where
  pub stands-through : {σ τ : List ℕ} {R Q P : Plan} → Stands F σ R Q → Stands F τ Q P → Stands F (through σ τ) R P
  stands-through {σ} {τ} {R} {Q} {P} s t = record {
    covers = covers-through (fields_of F R) σ (fields_of F Q) τ (fields_of F P) s.covers t.covers;
    alike = λ W. t.alike W ∙ rw (s.alike W) (map_with (pick τ) (pick σ) _ (rows W R) (pick-through (fields_of F R) σ (fields_of F Q) τ (fields_of F P) s.covers t.covers));
  }
