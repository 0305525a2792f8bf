-- A projection that adds columns before an input's own fields stands for the input.
use Rattle.std.proofs.Common.{◌≡◌, ℕ, suc, List, [], ◌∷◌, ◌++◌, map, length, sym, refl, ap, ◌∙◌, append_assoc, add-one, arith, length-append}
use lib.ListN.{length-map}
use lib.Seq.{get_or-append_seam}
use Rattle.std.proofs.ByRecursion.{All-weaker}
use Rattle.plan.specs.Functions.{Functions}
use Rattle.plan.specs.Plans.{Plan, fields_of}
use Rattle.plan.specs.Plans.Plan.{projection}
use Rattle.plan.specs.Rendering.{field_of, unqualified_field}
use Rattle.plan.specs.Terms.{Expr, Field}
use Rattle.plan.specs.Values.{null}
use Rattle.rows.proofs.Closure.{recover, refs-fields}
use Rattle.rows.proofs.Finds.{mean-refl}
use Rattle.rows.proofs.Lists.{map-append, map_back, map_on, map_same}
use Rattle.rows.proofs.Wide.{Wide, rows-wide}
use Rattle.rows.proofs.Words.{eval, rows}
use Rattle.rows.specs.Rows.{rows_of}
use Rattle.rows.specs.Standing.{Covers, Lawful, Stands, pick, refs, up_from}
use Rattle.rows.specs.Worlds.{Fitting, Row}

snoc-long : {A : Type 0} (l : List A) (x : A) → length (l ++ x ∷ []) ≡ suc (length l)
snoc-long l x = length-append l (x ∷ []) ∙ add-one (length l)

-- the places behind a front
pub covers-behind : (front fs : List Field) → Covers (front ++ fs) (up_from (length front) (length fs)) fs
covers-behind front [] = tt
covers-behind front (f ∷ fs) = (
  rw (length-append front (f ∷ fs)) (omega arith),
  rw (get_or-append_seam front f fs (unqualified_field [])) (mean-refl f),
  rw (append_assoc front (f ∷ []) fs, snoc-long front f) at (covers-behind (front ++ f ∷ []) fs),
)

pick-behind : (front row : Row) → pick (up_from (length front) (length row)) (front ++ row) ≡ row
unfolding pick
pick-behind front [] = refl
pick-behind front (v ∷ row) =
    let p = get_or-append_seam front v row null in
    let q = rw (append_assoc front (v ∷ []) row, snoc-long front v) at (pick-behind (front ++ v ∷ []) row) in
    cc

pub pick-behind-wide : (n m : ℕ) (front row : Row) → Wide n front → Wide m row → pick (up_from n m) (front ++ row) ≡ row
pick-behind-wide n m front row h k = rw (← h, ← k) (pick-behind front row)

module _ {F : Functions} where
  -- a lawful input's own fields, by reference
  pub own_row : (W : Fitting F) (fs : List Field) → Lawful fs → (row : Row) → Wide (length fs) row → map (eval W fs row) (refs fs) ≡ row
  own_row W fs h row k = recover W fs (up_from 0 (length fs)) fs row (covers-behind [] fs) h ∙ pick-behind-wide 0 (length fs) [] row refl k

-- the input with the columns es before its own
abbrev pub extend : Functions → List Expr → Plan → Plan
extend F es I = projection (es ++ refs (fields_of F I)) I

extend-fields : (F : Functions) (es : List Expr) (I : Plan) → fields_of F (extend F es I) ≡ map (field_of F) es ++ fields_of F I
extend-fields F es I =
    map-append (field_of F) es (refs (fields_of F I)) ∙ ap (λ (r : List Field). map (field_of F) es ++ r) (refs-fields F (fields_of F I))

module _ {F : Functions} where
  module _ (es : List Expr) (I : Plan) (lawful : Lawful (fields_of F I)) where
    pub extended : (W : Fitting F) (row : Row) → Wide (length (fields_of F I)) row
        → map (eval W (fields_of F I) row) (es ++ refs (fields_of F I)) ≡ map (eval W (fields_of F I) row) es ++ row
    extended W row h = map-append _ es (refs (fields_of F I)) ∙ ap (λ (r : Row). map (eval W (fields_of F I) row) es ++ r) (own_row W (fields_of F I) lawful row h)

    pub rows-extend : (W : Fitting F) → rows W (extend F es I) ≡ map (λ row. map (eval W (fields_of F I) row) es ++ row) (rows W I)
    unfolding rows_of
    rows-extend W = map_on _ _ (rows W I) (All-weaker _ _ (extended W) (rows W I) (rows-wide W I))

    pub back-extend : (W : Fitting F) (row : Row) → Wide (length (fields_of F I)) row
        → pick (up_from (length es) (length (fields_of F I))) (map (eval W (fields_of F I) row) es ++ row) ≡ row
    back-extend W row h = pick-behind-wide (length es) (length (fields_of F I)) (map (eval W (fields_of F I) row) es) row (length-map es (eval W (fields_of F I) row)) h

    pub stands-extend : Stands F (up_from (length es) (length (fields_of F I))) (extend F es I) I
    stands-extend = record {
      covers = rw (extend-fields F es I, ← (length-map es (field_of F))) (covers-behind (map (field_of F) es) (fields_of F I));
      alike = λ W. rw (rows-extend W) (map_back _ _ (rows W I) (All-weaker _ _ (back-extend W) (rows W I) (rows-wide W I)));
    }

module _ {F : Functions} where
  -- a plan stands for itself
  pub stands_self : (P : Plan) → Stands F (up_from 0 (length (fields_of F P))) P P
  stands_self P = record {
    covers = covers-behind [] (fields_of F P);
    alike = λ W. sym (map_same _ (rows W P) (All-weaker _ _ (λ row w. pick-behind-wide 0 (length (fields_of F P)) [] row refl w) (rows W P) (rows-wide W P)));
  }
