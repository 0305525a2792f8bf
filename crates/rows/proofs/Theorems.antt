-- The theorems that the contracts name.
use Rattle.std.proofs.Common.{◌≡◌, Bool, true, false, cond, not, ◌&&◌, ◌||◌, T, List, [], ◌∷◌, ◌++◌, map, length, sym, refl, ap, ◌∙◌, subst, append-nil, arith}
use lib.Ieee.{binary64}
use lib.Ieee.Bits.{of_bits-to_bits}
use Rattle.plan.specs.Terms.Literal.{null as null_literal, real as real_literal, text as text_literal, truth as truth_literal, whole as whole_literal}
use Rattle.plan.specs.Values.Value.{real}
use Rattle.plan.specs.Fields.{any}
use Rattle.plan.specs.Plans.{fields_of}
use Rattle.rows.proofs.Nulls.{keeps_null}
use Rattle.rows.proofs.Wide.{rows-wide}
use Rattle.rows.specs.Examples.{compared, contents_of, examples_hold, gives, joins_hold, nodes_hold, same_row, same_rows, same_value}
use Rattle.rows.specs.Lists.{each, gather, keep, or_else, place}
use Rattle.rows.specs.Rows.{fit, further_rows, holds, joined, key_values, keyed, lone, matches, may_mean, nulls, pairs, pairs_padded, rows_of, seek, taken_by, total_number, under, value_in, values_in}
use Rattle.rows.specs.Theorems.{LiteralsAreThemselves, FiltersKeepBoth, LeftPadsInner, NullKeepingIsNull, RowsAreAsWide, SemiAndAntiSplit, Split, matched}
use Rattle.rows.specs.Worlds.{Row}

pub rows-are-as-wide : RowsAreAsWide
rows-are-as-wide F W p = rows-wide W p

keep-keep : (p q : Row → Bool) (xs : List Row) → keep q (keep p xs) ≡ keep (λ x. p x && q x) xs
unfolding keep
keep-keep p q [] = refl
keep-keep p q (x ∷ xs) = go (p x) (keep-keep p q xs)
  where
    go : (b : Bool) → keep q (keep p xs) ≡ keep (λ x. p x && q x) xs
        → keep q (cond b (x ∷ keep p xs) (keep p xs)) ≡ cond (b && q x) (x ∷ keep (λ x. p x && q x) xs) (keep (λ x. p x && q x) xs)
    go true h = ap (λ (r : List Row). cond (q x) (x ∷ r) r) h
    go false h = h

pub filters-keep-both : FiltersKeepBoth
unfolding rows_of
filters-keep-both F w d e p = keep-keep (holds w (fields_of F p) e) (holds w (fields_of F p) d) (rows_of F w p)

each_on : (f g : Row → List Row) → ((x : Row) → f x ≡ g x) → (xs : List Row) → each f xs ≡ each g xs
unfolding each
each_on f g h [] = refl
each_on f g h (x ∷ xs) = let p = h x in let q = each_on f g h xs in cc

-- one left row: its pairs, and itself padded where it has none
one-row : (m : Row → Row → Bool) (l : Row) (rs : List Row) → pairs m (l ∷ []) rs ≡ map (λ r. l ++ r) (keep (m l) rs)
unfolding pairs each
one-row m l rs = append-nil (map (λ r. l ++ r) (keep (m l) rs))

or-padded : (m : Row → Bool) (l d : Row) (rs : List Row)
    → or_else (map (λ r. l ++ r) (keep m rs)) d ≡ cond (any m rs) (map (λ r. l ++ r) (keep m rs)) (d ∷ [])
unfolding or_else keep
or-padded m l d [] = refl
or-padded m l d (r ∷ rs) = go (m r) (or-padded m l d rs)
  where
    go : (b : Bool) → or_else (map (λ r. l ++ r) (keep m rs)) d ≡ cond (any m rs) (map (λ r. l ++ r) (keep m rs)) (d ∷ [])
        → or_else (map (λ r. l ++ r) (cond b (r ∷ keep m rs) (keep m rs))) d
        ≡ cond (b || any m rs) (map (λ r. l ++ r) (cond b (r ∷ keep m rs) (keep m rs))) (d ∷ [])
    go true h = refl
    go false h = h

pub left-pads-inner : LeftPadsInner
unfolding rows_of joined pairs_padded pairs
left-pads-inner F w cs l r = (
  each_on _ _ (λ row. sym (one-row (matched F w cs l r) row (rows_of F w r))) (rows_of F w l),
  each_on _ _ (λ row. or-padded (matched F w cs l r row) row (row ++ nulls (length (fields_of F r))) (rows_of F w r)
      ∙ ap (λ (rs : List Row). cond (any (matched F w cs l r row) (rows_of F w r)) rs ((row ++ nulls (length (fields_of F r))) ∷ [])) (sym (one-row (matched F w cs l r) row (rows_of F w r))))
      (rows_of F w l),
)

split_by : (t : Row → Bool) (xs : List Row) → Split t xs (keep t xs) (keep (λ x. not (t x)) xs)
unfolding keep
split_by t [] = record { count = refl; pass = tt; fail = tt }
split_by t (x ∷ xs) = go (t x) refl (split_by t xs)
  where
    go : (b : Bool) → t x ≡ b → Split t xs (keep t xs) (keep (λ x. not (t x)) xs)
        → Split t (x ∷ xs) (cond b (x ∷ keep t xs) (keep t xs)) (cond (not b) (x ∷ keep (λ x. not (t x)) xs) (keep (λ x. not (t x)) xs))
    go true p s = record { count = let c = s.count in omega arith; pass = (subst T (sym p) tt, s.pass); fail = s.fail }
    go false p s = record { count = let c = s.count in omega arith; pass = s.pass; fail = (rw p tt, s.fail) }

pub semi-and-anti-split : SemiAndAntiSplit
unfolding rows_of joined
semi-and-anti-split F w cs l r = (split_by _ (rows_of F w l), split_by _ (rows_of F w r))

pub null-keeping-is-null : NullKeepingIsNull
null-keeping-is-null F W fs n e k = keeps_null W fs n e k

pub literals-are-themselves : LiteralsAreThemselves
literals-are-themselves null_literal h = refl
literals-are-themselves (truth_literal b) h = refl
literals-are-themselves (whole_literal n) h = refl
literals-are-themselves (real_literal x) h = ap real (of_bits-to_bits binary64 x h)
literals-are-themselves (text_literal t) h = refl

pub examples-hold : examples_hold ≡ true
unfolding examples_hold nodes_hold joins_hold gives same_rows same_row same_value compared contents_of rows_of further_rows joined pairs pairs_padded lone keep or_else gather place each value_in values_in holds matches nulls fit keyed key_values taken_by total_number seek may_mean under
examples-hold = refl
