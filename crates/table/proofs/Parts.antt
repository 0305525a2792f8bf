-- Parts of a list, as lists grow.
use Rattle.std.proofs.Common.{◌≡◌, ℕ, ◌+◌, ◌≤◌, List, ◌++◌, length, take, drop, refl, ap, ◌∙◌, ap₂, arith, length-drop, length-take}
use Rattle.std.proofs.lemmas.List.{drop-append-le, take-append-le, take_all, drop_at}
use Rattle.table.specs.Contents.{part}

pub length_part : {X : Type 0} (xs : List X) (s l : ℕ) → s + l ≤ length xs → length (part xs s l) ≡ l
length_part xs s l h = omega (arith, length-take l (drop s xs), length-drop s xs)

-- what a part was, it stays
pub part-grow : {X : Type 0} (xs ys : List X) (s l : ℕ) → s + l ≤ length xs → part (xs ++ ys) s l ≡ part xs s l
part-grow xs ys s l h =
    ap (λ z. take l z) (drop-append-le s xs ys (omega arith)) ∙ take-append-le l (drop s xs) ys (omega (arith, length-drop s xs))

-- what was just added, as a part
pub part-new : {X : Type 0} (xs ys : List X) → part (xs ++ ys) (length xs) (length ys) ≡ ys
part-new xs ys = ap (λ z. take (length ys) z) (drop_at xs ys (length xs) refl) ∙ take_all (length ys) ys (omega arith)

pub part-added : {X : Type 0} (xs ys zs : List X) (s : ℕ) → zs ≡ xs ++ ys → s ≡ length xs → part zs s (length ys) ≡ ys
part-added xs ys zs s e h = ap₂ (λ l k. part l k (length ys)) e h ∙ part-new xs ys
