-- Tests of names, byte by byte.
use Rattle.std.proofs.Common.{◌≡◌, ℕ, ◌+◌, ◌-◌, ◌*◌, ◌≤◌, min, nat_eq, Bool, true, false, cond, ◌&&◌, ltb, List, [], ◌∷◌, ◌++◌, length, take, drop, Option, Some, None, Bor, sym, refl, ap, ◌∙◌, ⊎_elim, arith}
use Rattle.std.specs.Cmp.Lexicographic.{pointwise, bytes_decides}
use Rattle.std.specs.Str.{bytes_eq}
use Rattle.std.specs.List.{list_all}
use Rattle.std.specs.Option.{MatchOption, unwrap_or}
use Rattle.std.proofs.lemmas.Slice.Eq.{bytes_eq-Decides}
use Rattle.std.proofs.lemmas.List.{drop_all}
use Rattle.std.proofs.lemmas.List.Recursion.{same_from_clauses}
use Rattle.std.proofs.lemmas.Bool.{cases_lt, ltb-false}
use Rattle.std.proofs.lemmas.Bool.Decides.{same_from_decides}
use Rattle.plan.specs.Names.{plain, plain_byte, digit, digits, read_on, prefix, number_of}

pub matched : (xs ys : List ℕ) (r : Bool) → r ≡ pointwise nat_eq xs ys → r ≡ bytes_eq xs ys
matched xs ys r m = m ∙ same_from_decides (pointwise nat_eq xs ys) (bytes_eq xs ys) (bytes_decides xs ys) (bytes_eq-Decides xs ys)

pub matched-back : (xs ys : List ℕ) (r : Bool) → r ≡ pointwise nat_eq xs ys → r ≡ bytes_eq ys xs
matched-back xs ys r m =
    let d = bytes_decides xs ys in
    m ∙ same_from_decides (pointwise nat_eq xs ys) (bytes_eq ys xs) (λ t. sym (d.0 t), λ e. d.1 (sym e)) (bytes_eq-Decides ys xs)

pub all_plain : (xs : List ℕ) → list_all plain_byte xs ≡ plain xs
all_plain = same_from_clauses (list_all plain_byte) plain (λ x b. plain_byte x && b) refl (λ _ _. refl) (λ _ _. refl)

-- reading on never makes a number smaller
grows : (n : ℕ) (cs : List ℕ) → n ≤ read_on n cs
grows n [] = omega arith
grows n (c ∷ cs) = omega (arith, grows (n * 10 + (c - 48)) cs)

-- a number may be capped on the way
capped : (m n : ℕ) (cs : List ℕ) → min (read_on (min n m) cs) m ≡ min (read_on n cs) m
capped m n cs =
    ⊎_elim (λ l. omega (arith, grows n cs, grows (min n m) cs)) (λ l. ap (λ k. min (read_on k cs) m) (omega arith)) (cases_lt m n)

-- the number that digits write after those of n, capped at m; none where there is anything else
abbrev pub read_capped : ℕ → ℕ → List ℕ → Option ℕ
read_capped m n cs = cond (digits cs) (Some (min (read_on n cs) m)) None

pub read_digit : (m n c : ℕ) (cs : List ℕ) → digit c ≡ true → read_capped m n (c ∷ cs) ≡ read_capped m (min (n * 10 + (c - 48)) m) cs
read_digit m n c cs e =
    ap (λ b. cond (b && digits cs) (Some (min (read_on (n * 10 + (c - 48)) cs) m)) None) e
    ∙ ap (λ k. cond (digits cs) (Some k) None) (sym (capped m (n * 10 + (c - 48)) cs))

pub read_other : (m n c : ℕ) (cs : List ℕ) → digit c ≡ false → read_capped m n (c ∷ cs) ≡ None
read_other m n c cs e = ap (λ b. cond (b && digits cs) (Some (min (read_on (n * 10 + (c - 48)) cs) m)) None) e

-- no byte after the prefix writes 0, as no number does
number-split : (t : Bool) (n : List ℕ) → (t ≡ false → drop 23 n ≡ []) → cond (t && digits (drop 23 n)) (read_on 0 (drop 23 n)) 0 ≡ cond (digits (drop 23 n)) (read_on 0 (drop 23 n)) 0
number-split true n h = refl
number-split false n h = ap (λ ds. cond (digits ds) (read_on 0 ds) 0) (sym (h refl))

pub number-there : (n : List ℕ) → bytes_eq (take 23 n) (prefix ++ 95 ∷ []) ≡ true → number_of n ≡ cond (digits (drop 23 n)) (read_on 0 (drop 23 n)) 0
number-there n e =
    ap (λ b. cond (b && (ltb 23 (length n) && digits (drop 23 n))) (read_on 0 (drop 23 n)) 0) e
    ∙ number-split (ltb 23 (length n)) n (λ f. drop_all 23 n (omega (arith, ltb-false 23 (length n) f)))

pub number-none : (n : List ℕ) → bytes_eq (take 23 n) (prefix ++ 95 ∷ []) ≡ false → number_of n ≡ 0
number-none n e = ap (λ b. cond (b && (ltb 23 (length n) && digits (drop 23 n))) (read_on 0 (drop 23 n)) 0) e

-- what was read, or 0
read-or : (m n : ℕ) (cs : List ℕ) → unwrap_or (read_capped m n cs) 0 ≡ min (cond (digits cs) (read_on n cs) 0) m
read-or m n cs = go (digits cs)
  where
    go : (b : Bool) → unwrap_or (cond b (Some (min (read_on n cs) m)) None) 0 ≡ min (cond b (read_on n cs) 0) m
    go true = refl
    go false = omega arith

-- the number of a name, where what follows the prefix and `_` is found first
pub number-found : (n : List ℕ) (m : ℕ) (q : Option ℕ) (o : Option (Bor (List ℕ)))
    → MatchOption o (pointwise nat_eq (take 23 n) (prefix ++ 95 ∷ []) ≡ false) (λ x. (pointwise nat_eq (take 23 n) (prefix ++ 95 ∷ []) ≡ true) × (x.now ≡ drop 23 n) × (length x.now + 23 ≡ length n))
    → MatchOption o (q ≡ None) (λ x. q ≡ read_capped m 0 x.now) → unwrap_or q 0 ≡ min (number_of n) m
number-found n m q None f e =
    let z : 0 ≡ min 0 m = omega arith in
    ap (λ k. unwrap_or k 0) e ∙ z ∙ ap (λ k. min k m) (sym (number-none n (sym (matched (take 23 n) (prefix ++ 95 ∷ []) false (sym f)))))
number-found n m q (Some x) f e =
    ap (λ k. unwrap_or k 0) (e ∙ ap (read_capped m 0) f.1) ∙ read-or m 0 (drop 23 n)
    ∙ ap (λ k. min k m) (sym (number-there n (sym (matched (take 23 n) (prefix ++ 95 ∷ []) true (sym f.0)))))
