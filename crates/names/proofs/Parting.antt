-- A text parted at its commas is what the library's `split` gives.
use Rattle.std.proofs.Common.{◌≡◌, ℕ, ◌<◌, cond, eqb, List, [], ◌∷◌, length, map, Option, Some, None, Bool, Bor, false, refl, ap, subst, ◌∙◌, ◌&&◌}
use Rattle.std.specs.Fn.{CalledAt}
use Rattle.std.specs.Iterator.{Yields}
use Rattle.std.specs.declared.slice.Split.{Split}
use Rattle.std.specs.Slice.Iter.{split_rest, split_done, split_callee, split_steps}
use Rattle.std.proofs.lemmas.Iterator.{YieldsList}
use Rattle.std.proofs.lemmas.Iterator.Consumers.{YieldsList-turn, YieldsList-end}
use Rattle.std.proofs.lemmas.Iterator.Splits.{YieldsList-from_slice_split}
use denote.Param.Members.{Mut}
use Rattle.std.specs.List.{list_all, slice_split, onto_first}
use Rattle.std.proofs.lemmas.List.Recursion.{same_from_clauses}
use Rattle.plan.specs.Names.{Name, good_name}
use Rattle.plan.specs.Calls.{parts, first_part}
use Rattle.plan.specs.Fields.{every}

onto-first : (c : ℕ) (ns : List Name) → onto_first c ns ≡ first_part c ns
onto-first c [] = refl
onto-first c (n ∷ ns) = refl

split_parts : (xs : List ℕ) → slice_split (λ c. eqb c 44) xs ≡ parts xs
split_parts [] = refl
split_parts (c ∷ cs) =
    ap (λ ns. cond (eqb c 44) ([] ∷ ns) (onto_first c ns)) (split_parts cs) ∙ ap (λ ns. cond (eqb c 44) ([] ∷ parts cs) ns) (onto-first c (parts cs))

pub all_good : (ns : List Name) → list_all good_name ns ≡ every good_name ns
all_good = same_from_clauses (list_all good_name) (every good_name) (λ n b. good_name n && b) refl (λ _ _. refl) (λ _ _. refl)

pub parts-from_split : {F : Type 0} {s : Split ℕ F} (g : Mut F (Bor ℕ × Unit {0}) Bool) {f : F} (xs : List ℕ) → split_rest s ≡ xs → split_done s ≡ false → split_callee s ≡ f
    → ((c : ℕ) (b : Bool) (q : F) → CalledAt g f c b q → (q ≡ f) × (b ≡ eqb c 44)) → YieldsList (split_steps g) (λ p. p.now) s (parts xs)
parts-from_split g xs rest going callee h =
    subst (YieldsList (split_steps g) (λ p. p.now) _) (split_parts xs) (YieldsList-from_slice_split g (λ c. eqb c 44) xs rest going callee h)

-- the same in a loop over the parts: after ys
module _ {F : Type 0} (g : Mut F (Bor ℕ × Unit {0}) Bool) (xs : List ℕ) {f : F} (s : Split ℕ F) (ys : List (Bor (List ℕ))) (t u : Split ℕ F) (y : Yields (split_steps g) s ys t)
    (rest : split_rest s ≡ xs) (going : split_done s ≡ false) (callee : split_callee s ≡ f) (r : Option (Bor (List ℕ))) (step : split_steps g t r u)
    (h : (c : ℕ) (b : Bool) (q : F) → CalledAt g f c b q → (q ≡ f) × (b ≡ eqb c 44)) where
  pub parts_turn : (x : Bor (List ℕ)) → r ≡ Some x → length ys < length (parts xs)
  parts_turn x is = (YieldsList-turn (parts-from_split g xs rest going callee h) ys t y r u x is step).0

  pub parts_end : r ≡ None → map (λ p. p.now) ys ≡ parts xs
  parts_end is = (YieldsList-end (parts-from_split g xs rest going callee h) ys t y r u is step).0
