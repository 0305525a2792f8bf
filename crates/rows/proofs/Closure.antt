-- What stands for a plan's input stands for the plan.
use Rattle.std.proofs.Common.{◌≡◌, ℕ, List, [], ◌∷◌, map, take, drop, sym, refl, ap, ◌∙◌}
use Rattle.std.specs.List.{AllByRecursion}
use Rattle.plan.specs.Functions.{Functions}
use Rattle.plan.specs.Plans.{Key, Plan, fields_of}
use Rattle.plan.specs.Plans.Plan.{filter, limit, projection, sort}
use Rattle.plan.specs.Rendering.{field_of}
use Rattle.plan.specs.Terms.{Expr, Field}
use Rattle.plan.specs.Terms.Expr.{reference}
use Rattle.plan.specs.Values.{is_true}
use Rattle.rows.proofs.Finds.{eval-alike}
use Rattle.rows.proofs.Lists.{all_any, drop-map, gather-map, keep-map, map_on, map_with, take-map}
use Rattle.rows.proofs.Words.{eval, rows}
use Rattle.rows.specs.Rows.{holds, key_values, rows_of, value_in}
use Rattle.rows.specs.Standing.{Covers, Known, Same, Stands, pick, refs}
use Rattle.rows.specs.Worlds.{Fitting, Row}

cut-map : (g : Row → Row) (s c : ℕ) (rs : List Row) → take c (drop s (map g rs)) ≡ map g (take c (drop s rs))
cut-map g s c rs = rw (drop-map g s rs) (take-map g c (drop s rs))

module _ {F : Functions} where
  -- the expressions of a list whose references are known on both sides
  pub alike_all : (W : Fitting F) (rs : List Field) (σ : List ℕ) (ps : List Field) → Covers rs σ ps → (row : Row) (es : List Expr)
      → AllByRecursion (Known ps) es → AllByRecursion (Known rs) es → map (eval W ps (pick σ row)) es ≡ map (eval W rs row) es
  alike_all W rs σ ps c row [] kp kr = refl
  alike_all W rs σ ps c row (e ∷ es) kp kr =
      let p = eval-alike W rs σ ps c row e kp.0 kr.0 in
      let q = alike_all W rs σ ps c row es kp.1 kr.1 in
      cc

  pub alike-keys : (W : Fitting F) (rs : List Field) (σ : List ℕ) (ps : List Field) → Covers rs σ ps → (row : Row) (ks : List Key)
      → AllByRecursion (λ k. Known ps k.by) ks → AllByRecursion (λ k. Known rs k.by) ks → map (λ k. eval W ps (pick σ row) k.by) ks ≡ map (λ k. eval W rs row k.by) ks
  alike-keys W rs σ ps c row [] kp kr = refl
  alike-keys W rs σ ps c row (e ∷ es) kp kr =
      let p = eval-alike W rs σ ps c row e.by kp.0 kr.0 in
      let q = alike-keys W rs σ ps c row es kp.1 kr.1 in
      cc

  module _ {σ : List ℕ} {R P : Plan} (s : Stands F σ R P) where
    pub stands-filter : (e : Expr) → Known (fields_of F P) e → Known (fields_of F R) e → Stands F σ (filter e R) (filter e P)
    unfolding rows_of holds
    stands-filter e kp kr = record {
      covers = s.covers;
      alike = λ W. rw (s.alike W)
          (keep-map (pick σ) (holds W.world (fields_of F R) e) (holds W.world (fields_of F P) e) (rows W R)
          (λ row. ap is_true (eval-alike W (fields_of F R) σ (fields_of F P) s.covers row e kp kr)));
    }

    pub stands-limit : (n c : ℕ) → Stands F σ (limit n c R) (limit n c P)
    unfolding rows_of
    stands-limit n c = record { covers = s.covers; alike = λ W. rw (s.alike W) (cut-map (pick σ) n c (rows W R)) }

    pub stands-sort : (ks : List Key) → AllByRecursion (λ k. Known (fields_of F P) k.by) ks → AllByRecursion (λ k. Known (fields_of F R) k.by) ks → Stands F σ (sort ks R) (sort ks P)
    unfolding rows_of key_values
    stands-sort ks kp kr = record {
      covers = s.covers;
      alike = λ W. rw (s.alike W)
          (rw (map_with (λ row. map (λ k. eval W (fields_of F P) row k.by) ks) (pick σ) (λ row. map (λ k. eval W (fields_of F R) row k.by) ks) (rows W R)
          (λ row. alike-keys W (fields_of F R) σ (fields_of F P) s.covers row ks kp kr))
          (gather-map (pick σ) _ (rows W R)));
    }

  -- references to the fields of P, in R, give the row of P
  pub recover : (W : Fitting F) (rs : List Field) (σ : List ℕ) (ps : List Field) (row : Row) → Covers rs σ ps → AllByRecursion (λ f. Known rs (reference f)) ps
      → map (eval W rs row) (refs ps) ≡ pick σ row
  unfolding value_in pick
  recover W rs [] [] row c k = refl
  recover W rs [] (p ∷ ps) row c k = absurd c
  recover W rs (i ∷ σ) [] row c k = absurd c
  recover W rs (i ∷ σ) (p ∷ ps) row c k =
      let e = k.0.sole i c.0 c.1 in
      let h = recover W rs σ ps row c.2 k.1 in
      cc

pub refs-fields : (F : Functions) (fs : List Field) → map (field_of F) (refs fs) ≡ fs
refs-fields F [] = refl
refs-fields F (f ∷ fs) = ap (λ (r : List Field). f ∷ r) (refs-fields F fs)

module _ {F : Functions} where
  pub recovery : {σ : List ℕ} {R P : Plan} → Stands F σ R P → AllByRecursion (λ f. Known (fields_of F R) (reference f)) (fields_of F P) → Same F (projection (refs (fields_of F P)) R) P
  unfolding rows_of
  recovery {σ} {R} {P} s k = record {
    fields_same = refs-fields F (fields_of F P);
    rows_same = λ W. map_on _ (pick σ) (rows W R) (all_any _ (rows W R) (λ row. recover W (fields_of F R) σ (fields_of F P) row s.covers k)) ∙ sym (s.alike W);
  }
