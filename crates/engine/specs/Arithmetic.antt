-- What the arithmetic engine answers.
--     in_range n      a whole number of 64 bits, else null
--     same_texts a b      whether both are texts, of the same bytes
--     alike a b      whether two values are of one kind and equal
--     of_numbers wholes reals a b      an operation on two whole numbers or on two reals
--     is_false v      whether v is the truth value false
--     equal, plus, minus, both, missing      the five functions
--     arithmetic n vs      what a call of number n means
--     arithmetic_strict n      whether number n gives null wherever an argument is null
use Rattle.std.specs.Prelude.{ℕ, ◌^◌, Bool, true, false, cond, not, ◌&&◌, ◌||◌, List, Float, ℤ, pos, negsuc, ◌+ℤ◌, ◌-ℤ◌, ◌==◌, nat_eq, nat_lt}
use Rattle.std.specs.Float.{binary64}
use Rattle.std.specs.Float.Ieee.{eq, add, sub}
use Rattle.std.specs.Str.{bytes_eq}
use Rattle.plan.specs.Terms.{same_truth, same_whole}
use Rattle.plan.specs.Values.{Value, is_true, is_null_value}
use Rattle.plan.specs.Values.Value.{null, truth, whole, real, text, record_number}
use Rattle.engine.specs.Arguments.{of_one, of_two}

-- from -2^63 to 2^63 - 1; negsuc n is -(n + 1)
abbrev pub in_range : ℤ → Value
in_range (pos n) = cond (nat_lt n (2 ^ 63)) (whole (pos n)) null
in_range (negsuc n) = cond (nat_lt n (2 ^ 63)) (whole (negsuc n)) null

-- two texts of the same bytes
abbrev pub same_texts : Value → Value → Bool
same_texts (text s) (text t) = bytes_eq s t
same_texts _ _ = false

-- reals compare as numbers: not-a-number is like nothing, and 0.0 is like -0.0
abbrev pub alike : Value → Value → Bool
alike (truth s) (truth t) = same_truth s t
alike (whole m) (whole n) = same_whole m n
alike (real x) (real y) = eq x y
alike (text s) (text t) = bytes_eq s t
alike (record_number k) (record_number l) = nat_eq k l
alike _ _ = false

-- null if an argument is null
abbrev pub equal : Value → Value → Value
equal a b = cond (is_null_value a || is_null_value b) null (truth (alike a b))

-- by one operation of two whole numbers, by the other of two reals; null at other kinds
abbrev pub of_numbers : (ℤ → ℤ → ℤ) → (Float → Float → Float) → Value → Value → Value
of_numbers wholes _ (whole m) (whole n) = in_range (wholes m n)
of_numbers _ reals (real x) (real y) = real (reals x y)
of_numbers _ _ _ _ = null

-- reals are rounded once
abbrev pub plus : Value → Value → Value
plus = of_numbers (◌+ℤ◌) (add binary64)

-- the first less the second
abbrev pub minus : Value → Value → Value
minus = of_numbers (◌-ℤ◌) (sub binary64)

abbrev pub is_false : Value → Bool
is_false (truth b) = not b
is_false _ = false

-- false if either is false, true for two trues, else null
abbrev pub both : Value → Value → Value
both a b = cond (is_false a || is_false b) (truth false) (cond (is_true a && is_true b) (truth true) null)

abbrev pub missing : Value → Value
missing a = truth (is_null_value a)

-- by number; a wrong count of arguments and any other number give null
abbrev pub arithmetic : ℕ → List Value → Value
arithmetic n vs =
    cond (n == 0) (of_two equal vs)
    (cond (n == 1) (of_two plus vs)
    (cond (n == 2) (of_two minus vs)
    (cond (n == 3) (of_two both vs)
    (cond (n == 4) (of_one missing vs) null))))

-- all but `and` and `missing`
abbrev pub arithmetic_strict : ℕ → Bool
arithmetic_strict n = not (n == 3) && not (n == 4)
