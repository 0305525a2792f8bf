-- The digits of a generated alias, written from the last place on.
use Rattle.std.proofs.Common.{◌≡◌, ℕ, suc, ◌+◌, ◌-◌, ◌/◌, ◌%◌, ◌<◌, ◌≤◌, List, [], ◌∷◌, ◌++◌, length, take, drop, set, sym, ap, ◌∙◌, arith}
use Rattle.std.proofs.lemmas.List.{drop-set, take-append-drop, take-set-le}
use Rattle.plan.specs.Names.{prefix}
use Rattle.rewriting.specs.Generated.{digits_onto, generated}

one-digit : (j k n : ℕ) (acc : List ℕ) → j ≡ suc k → digits_onto j n acc ≡ digits_onto k (n / 10) ((48 + n % 10) ∷ acc)
unfolding digits_onto
one-digit j k n acc e = ap (λ i. digits_onto i n acc) e

-- one digit more stands in its place
pub digit-written : (place rest : ℕ) (alias : List ℕ) → 23 < place → place ≤ length alias
    → digits_onto (place - 23) rest (drop place alias) ≡ digits_onto (place - 1 - 23) (rest / 10) (drop (place - 1) (set alias (place - 1) (48 + rest % 10)))
digit-written place rest alias low high =
    let e : place - 1 + 1 ≡ place = omega arith in
    one-digit (place - 23) (place - 1 - 23) rest (drop place alias) (omega arith)
    ∙ ap (λ ds. digits_onto (place - 1 - 23) (rest / 10) ds) (ap (λ i. (48 + rest % 10) ∷ drop i alias) (sym e) ∙ sym (drop-set alias (place - 1) (48 + rest % 10) (omega arith)))

pub front-kept : (place v : ℕ) (alias : List ℕ) → 23 < place → take 23 alias ≡ prefix ++ 95 ∷ [] → take 23 (set alias (place - 1) v) ≡ prefix ++ 95 ∷ []
front-kept place v alias low h = take-set-le 23 alias (place - 1) v (omega arith) ∙ h

pub all-written : (place rest number : ℕ) (alias : List ℕ) → place ≡ 23 → take 23 alias ≡ prefix ++ 95 ∷ [] → digits_onto 9 number [] ≡ digits_onto (place - 23) rest (drop place alias) → alias ≡ generated number
unfolding digits_onto generated
all-written place rest number alias e front digits =
    let d : digits_onto 9 number [] ≡ drop 23 alias = digits ∙ ap (λ i. digits_onto (i - 23) rest (drop i alias)) e in
    sym (take-append-drop 23 alias) ∙ ap (λ xs. xs ++ drop 23 alias) front ∙ ap (λ ds. prefix ++ 95 ∷ ds) (sym d)
