-- Where the parts stand that `split` takes off a text.
use Rattle.std.proofs.Common.{◌≡◌, ℕ, ◌+◌, ◌≤◌, Bool, true, false, List, [], ◌∷◌, ◌++◌, length, take, drop, Some, Bor, sym, refl, ap, ◌∙◌, arith, length-append}
use Rattle.std.specs.Bool.{MatchBool}
use Rattle.std.specs.declared.slice.Split.{Split}
use Rattle.std.specs.Slice.Iter.{split_rest, split_done, split_steps}
use Rattle.std.proofs.lemmas.List.{append-nil, drop-drop, length-drop, take-append-le, drop-append-le, take_all, drop_all}
use Rattle.std.proofs.lemmas.Bool.{true≢false}
use denote.Param.Members.{Mut}

-- a call takes the part x off the front, and where more parts follow, one element behind it
pub record Takes {F : Type 0} (s t : Split ℕ F) (x : List ℕ) : Type 0 where
  pub going : split_done s ≡ false
  pub left : List ℕ
  pub whole : split_rest s ≡ x ++ left
  pub more : split_done t ≡ false → (y : ℕ) × (left ≡ y ∷ split_rest t)

pub takes : {F : Type 0} (g : Mut F (Bor ℕ × Unit {0}) Bool) (s t : Split ℕ F) (x : Bor (List ℕ)) → split_steps g s (Some x) t → Takes s t x.now
takes g s t x p = go (split_done t) refl p.1
  where
    go : (b : Bool) → split_done t ≡ b → MatchBool b (split_rest s ≡ x.now) ((y : ℕ) × (split_rest s ≡ x.now ++ (y ∷ split_rest t))) → Takes s t x.now
    go true e w = record { going = p.0; left = []; whole = w ∙ sym (append-nil x.now); more = λ f. absurd (true≢false (sym e ∙ f)) }
    go false e w = record { going = p.0; left = w.0 ∷ split_rest t; whole = w.1; more = λ f. (w.0, refl) }

module _ (xs : List ℕ) (start : ℕ) (x left : List ℕ) (fits : start ≤ length xs) (here : drop start xs ≡ x ++ left) where
  pub part-is : take (length x) (drop start xs) ≡ x
  part-is = ap (take (length x)) here ∙ take-append-le (length x) x left (omega arith) ∙ take_all (length x) x (omega arith)

  pub part-in : start + length x ≤ length xs
  part-in = omega (arith, ap length here, length-drop start xs, length-append x left)

  behind : drop (start + length x) xs ≡ left
  behind =
      sym (drop-drop (length x) start xs) ∙ ap (drop (length x)) here ∙ drop-append-le (length x) x left (omega arith)
      ∙ ap (λ l. l ++ left) (drop_all (length x) x (omega arith))

  pub next-part : (y : ℕ) (rest : List ℕ) → left ≡ y ∷ rest → (start + (length x + 1) ≤ length xs) × (drop (start + (length x + 1)) xs ≡ rest)
  next-part y rest e =
      let k : start + (length x + 1) ≡ start + length x + 1 = omega arith in (
        omega (arith, ap length here, length-drop start xs, length-append x left, ap length e),
        ap (λ i. drop i xs) k ∙ sym (drop-drop 1 (start + length x) xs) ∙ ap (drop 1) (behind ∙ e),
      )
