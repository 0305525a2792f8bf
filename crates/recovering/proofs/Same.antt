-- Whether two lists of fields are the same, as a chain over both asks it.
use Rattle.std.proofs.Common.{◌≡◌, ℕ, ◌<◌, Bool, true, false, ◌&&◌, List, [], ◌∷◌, map, length, get_or, refl, ap, ◌∙◌, arith}
use Rattle.std.proofs.lemmas.Slice.Zip.{get_or-zip, length-zip}
use Rattle.std.proofs.Math.Bool.{and-false}
use Rattle.std.specs.List.{list_all, zip}
use Rattle.lexicon.proofs.Frames.{every-at}
use Rattle.plan.specs.Fields.{every}
use Rattle.plan.specs.Terms.{Field, same_field}
use Rattle.rewriting.specs.Extracting.{same_fields}

-- lists of other lengths are not the same
pub differ : (fs gs : List Field) → (length fs ≡ length gs → ⊥) → same_fields fs gs ≡ false
unfolding same_fields
differ [] [] h = absurd (h refl)
differ [] (g ∷ gs) h = refl
differ (f ∷ fs) [] h = refl
differ (f ∷ fs) (g ∷ gs) h = ap (λ b. same_field f g && b) (differ fs gs (λ e. h (omega arith))) ∙ and-false (same_field f g)

module _ {X : Type 0} (f : X → Field) where
  pub same-zipped : (xs ys : List X) → length xs ≡ length ys → list_all (λ p. same_field (f p.0) (f p.1)) (zip xs ys) ≡ same_fields (map f xs) (map f ys)
  unfolding same_fields
  same-zipped [] [] h = refl
  same-zipped [] (y ∷ ys) h = absurd (omega arith)
  same-zipped (x ∷ xs) [] h = absurd (omega arith)
  same-zipped (x ∷ xs) (y ∷ ys) h = ap (λ b. same_field (f x) (f y) && b) (same-zipped xs ys (omega arith))

-- a pair of items is of items of both
pub pair-at : {X : Type 0} (p : X → Bool) (xs ys : List X) (k : ℕ) (x y : X) → every p xs ≡ true → every p ys ≡ true → k < length (zip xs ys) → ◌≡◌ {A = X × X} (x, y) (get_or (zip xs ys) k (x, y)) → (p x ≡ true) × (p y ≡ true)
pair-at p xs ys k x y h j lt e =
    let n = length-zip xs ys in
    let a : k < length xs = omega (arith, lt, n) in
    let b : k < length ys = omega (arith, lt, n) in
    let z = e ∙ get_or-zip xs ys k (x, y) a b in
    (ap (λ (q : _ × _). p q.0) z ∙ every-at p xs k x a h, ap (λ (q : _ × _). p q.1) z ∙ every-at p ys k y b j)
