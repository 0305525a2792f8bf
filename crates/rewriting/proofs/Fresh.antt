-- Generated aliases: the number that is written is the number that is read, so a new number makes a new name.
use Rattle.std.proofs.Common.{◌≡◌, ℕ, zero, suc, ◌+◌, ◌/◌, ◌%◌, ◌^◌, ◌<◌, ◌≤◌, max, Bool, true, false, cond, not, T, eqb, ltb, leb, List, [], ◌∷◌, length, sym, refl, ap, ◌∙◌, pow-suc, arith, eqb→eq, leb→le}
use native.Mathlib.Nat.{pow-zero}
use lib.Dec.{nleb→lt, not_T}
use mir.Facts.{and_yes, yes_and}
use Rattle.std.proofs.ByRecursion.{All-weaker}
use Rattle.std.specs.List.{AllByRecursion}
use Rattle.std.specs.Str.{bytes_eq}
use Rattle.plan.specs.Names.{Name, digit, digits, good_name, most_number, number_of, numbered, plain, plain_byte, read_on}
use Rattle.rows.proofs.Finds.{name-eq}
use Rattle.rewriting.specs.Fresh.{GeneratedIsGood, GeneratedIsNew}
use Rattle.rewriting.specs.Generated.{book_names, digits_onto, generated, highest, next_number}

pub le_yes : (m n : ℕ) → m ≤ n → T (leb m n)
le_yes m n h = go (leb m n) (λ t. nleb→lt m n t)
  where
    go : (b : Bool) → (T (not b) → n < m) → T b
    go true f = tt
    go false f = let l = f tt in absurd (omega arith)

pub yes_true : (b : Bool) → T b → b ≡ true
yes_true true h = refl
yes_true false h = absurd h

-- digits are digits, and plain bytes
digit-yes : (n : ℕ) → T (digit (48 + n % 10))
digit-yes n = yes_and _ _ (le_yes 48 (48 + n % 10) (omega arith)) (le_yes (48 + n % 10) 57 (omega arith))

digits_onto_lem : (k n : ℕ) (acc : List ℕ) → T (digits acc) → T (digits (digits_onto k n acc))
unfolding digits_onto
digits_onto_lem zero n acc h = h
digits_onto_lem (suc k) n acc h = digits_onto_lem k (n / 10) ((48 + n % 10) ∷ acc) (yes_and (digit (48 + n % 10)) (digits acc) (digit-yes n) h)

not-this : (a b : ℕ) → b < a → T (not (eqb a b))
not-this a b h = not_T (eqb a b) (λ t. let p = eqb→eq a b t in omega arith)

plain-digits : (ds : List ℕ) → T (digits ds) → T (plain ds)
plain-digits [] h = tt
plain-digits (c ∷ cs) h =
    let a = and_yes (digit c) (digits cs) h in
    let b = leb→le 48 c (and_yes (leb 48 c) (leb c 57) a.0).0 in
    yes_and (plain_byte c) (plain cs) (yes_and (not (eqb c 44)) (not (eqb c 10)) (not-this c 44 (omega arith)) (not-this c 10 (omega arith))) (plain-digits cs a.1)

read-onto : (k n : ℕ) (acc : List ℕ) → n < 10 ^ k → read_on 0 (digits_onto k n acc) ≡ read_on n acc
unfolding digits_onto
read-onto zero n acc h = let z : n ≡ 0 = omega (arith, pow-zero 10) in ap (λ (m : ℕ). read_on m acc) (sym z)
read-onto (suc k) n acc h =
    let s = pow-suc 10 k in
    read-onto k (n / 10) ((48 + n % 10) ∷ acc) (omega arith) ∙ ap (λ (m : ℕ). read_on m acc) (omega arith)

long-onto : (k n : ℕ) (acc : List ℕ) → length (digits_onto k n acc) ≡ k + length acc
unfolding digits_onto
long-onto zero n acc = omega arith
long-onto (suc k) n acc = long-onto k (n / 10) ((48 + n % 10) ∷ acc) ∙ omega arith

pub number-generated : (k : ℕ) → k ≤ most_number → number_of (generated k) ≡ k
unfolding generated
number-generated k h = go (numbered (generated k)) numbered-yes
  where
    numbered-yes : T (numbered (generated k))
    numbered-yes = yes_and (ltb 23 (length (generated k))) (digits (digits_onto 9 k [])) (le_yes 24 (length (generated k)) (let l = long-onto 9 k [] in omega arith)) (digits_onto_lem 9 k [] tt)

    go : (b : Bool) → T b → cond b (read_on 0 (digits_onto 9 k [])) 0 ≡ k
    go true t = read-onto 9 k [] (omega arith)
    go false t = absurd t

-- a name of a lower number is another name
pub lower-differs : (k : ℕ) (x : Name) → k ≤ most_number → number_of x < k → bytes_eq (generated k) x ≡ false
lower-differs k x h l = go (bytes_eq (generated k) x) (λ t. name-eq (generated k) x t)
  where
    go : (b : Bool) → (T b → generated k ≡ x) → b ≡ false
    go true f = let p = ap number_of (f tt) in let q = number-generated k h in absurd (omega arith)
    go false f = refl

pub highest-base : (base : ℕ) (names : List Name) → base ≤ highest base names
unfolding highest
highest-base base [] = omega arith
highest-base base (x ∷ xs) = let h = highest-base (max base (number_of x)) xs in omega arith

pub highest-above : (base : ℕ) (names : List Name) → AllByRecursion (λ x. number_of x ≤ highest base names) names
unfolding highest
highest-above base [] = tt
highest-above base (x ∷ xs) = (let h = highest-base (max base (number_of x)) xs in omega arith, highest-above (max base (number_of x)) xs)

-- a name above the numbers of some names is none of them
pub above-differs : (base k : ℕ) (names : List Name) → highest base names < k → k ≤ most_number → AllByRecursion (λ x. bytes_eq (generated k) x ≡ false) names
above-differs base k names l h = All-weaker _ _ (λ x p. lower-differs k x h (omega arith)) names (highest-above base names)

pub generated-is-new : GeneratedIsNew
unfolding next_number
generated-is-new m k l h = above-differs 99999999 k (book_names m) l h

good-generated : (k : ℕ) → k ≤ most_number → T (good_name (generated k))
unfolding generated
good-generated k h =
    yes_and _ _
    (yes_and (ltb 0 (length (generated k))) (leb (length (generated k)) 255) (le_yes 1 (length (generated k)) (let l = long in omega arith)) (le_yes (length (generated k)) 255 (let l = long in omega arith)))
    (yes_and (plain (generated k)) (leb (number_of (generated k)) most_number) (plain-digits (digits_onto 9 k []) (digits_onto_lem 9 k [] tt)) (le_yes _ most_number (let n = number-generated k h in omega arith)))
  where
    long : length (generated k) ≡ 32
    long = let l = long-onto 9 k [] in omega arith

pub generated-is-good : GeneratedIsGood
unfolding generated
generated-is-good k h =
    let g = yes_true _ (good-generated k h) in
    (number-generated k h, refl, yes_true _ (yes_and _ _ (yes_and (good_name (generated k)) true (good-generated k h) tt) tt))
