-- Names: lists of bytes.
--     plain n, good_name n      no comma and no line feed; 1 to 255 such bytes whose number, if any, is small
--     prefixed n      the name begins as generated aliases do
--     number_of n      the decimal number after the prefix and `_`, if that is all that follows
use Rattle.std.specs.Prelude.{ℕ, ◌+◌, ◌-◌, ◌*◌, Bool, true, cond, not, ◌&&◌, List, [], ◌∷◌, ◌++◌, length, take, drop, codes, ◌==◌, nat_le, nat_lt}
use Rattle.std.specs.Str.{bytes_eq}

abbrev pub Name : Type 0
Name = List ℕ

abbrev pub plain_byte : ℕ → Bool
plain_byte c = not (c == 44) && not (c == 10)

-- no comma and no line feed
abbrev pub plain : Name → Bool
plain [] = true
plain (c ∷ cs) = plain_byte c && plain cs

-- what generated aliases begin with: 22 bytes
abbrev pub prefix : Name
prefix = codes "__datafusion_extracted"

abbrev pub prefixed : Name → Bool
prefixed n = bytes_eq (take 22 n) prefix

abbrev pub digit : ℕ → Bool
digit c = nat_le 48 c && nat_le c 57

abbrev pub digits : List ℕ → Bool
digits [] = true
digits (c ∷ cs) = digit c && digits cs

-- the number that decimal digits write, after those of n
abbrev pub read_on : ℕ → List ℕ → ℕ
read_on n [] = n
read_on n (c ∷ cs) = read_on (n * 10 + (c - 48)) cs

-- the prefix, `_` and at least one digit to the end
abbrev pub numbered : Name → Bool
numbered n = bytes_eq (take 23 n) (prefix ++ 95 ∷ []) && (nat_lt 23 (length n) && digits (drop 23 n))

-- the number after the prefix; 0 where there is none
abbrev pub number_of : Name → ℕ
number_of n = cond (numbered n) (read_on 0 (drop 23 n)) 0

abbrev pub most_number : ℕ
most_number = 999999999

-- a name or a text literal that question 2 lets pass
abbrev pub good_name : Name → Bool
good_name n = (nat_lt 0 (length n) && nat_le (length n) 255) && (plain n && nat_le (number_of n) most_number)
