-- Every row of a plan has a value for each of its fields.
use Rattle.std.proofs.Common.{◌≡◌, ℕ, ◌+◌, Bool, List, ◌++◌, map, length, take, drop, sym, ◌∙◌, append-nil, arith, length-append, length-take}
use lib.ListN.{length-map, length-replicate}
use Rattle.std.proofs.ByRecursion.{All-append, All-drop, All-map, All-take, All-weaker}
use Rattle.std.specs.List.{AllByRecursion}
use Rattle.plan.specs.Functions.{Functions}
use Rattle.plan.specs.Plans.{Plan, Plans, column_of, fields_of, qualified_by, shown, without_qualifier}
use Rattle.plan.specs.Plans.Plan.{aggregate, filter, join, limit, projection, sort, subquery_alias, table, union}
use Rattle.plan.specs.Plans.Plans.{also, done}
use Rattle.plan.specs.Rendering.{field_of}
use Rattle.plan.specs.Terms.{Field}
use Rattle.plan.specs.Values.{null}
use Rattle.plan.specs.declared.code.JoinKind.{JoinKind}
use Rattle.plan.specs.declared.code.JoinKind.TheVariants.{Full, Inner, Left, LeftAnti, LeftSemi, Right, RightAnti, RightSemi}
use Rattle.rows.proofs.Lists.{all_any, all-each, all-gather, all_keep, all-or_else}
use Rattle.rows.proofs.Words.{further, rows}
use Rattle.rows.specs.Lists.{keep}
use Rattle.rows.specs.Rows.{fit, joined, lone, nulls, pairs, pairs_padded, rows_of}
use Rattle.rows.specs.Worlds.{Fitting, Row}

abbrev pub Wide : ℕ → Row → Type 0
Wide n r = length r ≡ n

pub nulls-wide : (n : ℕ) → Wide n (nulls n)
unfolding nulls
nulls-wide n = length-replicate n null

fit_wide : (n : ℕ) (r : Row) → Wide n (fit n r)
unfolding fit
fit_wide n r = simp (length-take, length-append, nulls-wide) (omega arith)

glued : (a b : ℕ) (l r : Row) → Wide a l → Wide b r → Wide (a + b) (l ++ r)
glued a b l r h k = length-append l r ∙ cc

pub cut_all : (P : Row → Type 0) (s c : ℕ) (rs : List Row) → AllByRecursion P rs → AllByRecursion P (take c (drop s rs))
cut_all P s c rs h = All-take P c (drop s rs) (All-drop P s rs h)

-- what holds of every row of a join
module _ (P QL QR : Row → Type 0) (m : Row → Row → Bool) (ls rs : List Row) (hl : AllByRecursion QL ls) (hr : AllByRecursion QR rs) where
  all_row : (pair : (l r : Row) → QL l → QR r → P (l ++ r)) (l : Row) → QL l → AllByRecursion P (map (λ r. l ++ r) (keep (m l) rs))
  all_row pair l h =
      All-map P (λ r. l ++ r) (keep (m l) rs) (All-weaker QR (λ r. P (l ++ r)) (λ r k. pair l r h k) (keep (m l) rs) (all_keep QR (m l) rs hr))

  pub all-pairs : ((l r : Row) → QL l → QR r → P (l ++ r)) → AllByRecursion P (pairs m ls rs)
  unfolding pairs
  all-pairs pair = all-each P _ QL (λ l h. all_row pair l h) ls hl

  pub all-pairs_padded : (b : ℕ) → ((l r : Row) → QL l → QR r → P (l ++ r)) → ((l : Row) → QL l → P (l ++ nulls b)) → AllByRecursion P (pairs_padded m b ls rs)
  unfolding pairs_padded
  all-pairs_padded b pair pad = all-each P _ QL (λ l h. all-or_else P (map (λ r. l ++ r) (keep (m l) rs)) (l ++ nulls b) (all_row pair l h) (pad l h)) ls hl

  pub all-lone : (a : ℕ) → ((r : Row) → QR r → P (nulls a ++ r)) → AllByRecursion P (lone m a ls rs)
  unfolding lone
  all-lone a pad = All-map P (λ r. nulls a ++ r) _ (All-weaker QR (λ r. P (nulls a ++ r)) pad _ (all_keep QR _ rs hr))

joined-wide : (k : JoinKind) (m : Row → Row → Bool) (fl fr : List Field) (ls rs : List Row) → AllByRecursion (Wide (length fl)) ls → AllByRecursion (Wide (length fr)) rs
    → AllByRecursion (Wide (length (shown k fl fr))) (joined k m (length fl) (length fr) ls rs)
unfolding joined
joined-wide Inner m fl fr ls rs hl hr = rw (length-append fl fr) (all-pairs _ (Wide (length fl)) (Wide (length fr)) m ls rs hl hr (glued (length fl) (length fr)))
joined-wide Left m fl fr ls rs hl hr =
    rw (length-append fl fr) (all-pairs_padded _ (Wide (length fl)) (Wide (length fr)) m ls rs hl hr (length fr) (glued (length fl) (length fr))
    (λ l h. glued (length fl) (length fr) l (nulls (length fr)) h (nulls-wide (length fr))))
joined-wide Right m fl fr ls rs hl hr =
    rw (length-append fl fr) (All-append _ (pairs m ls rs) (lone m (length fl) ls rs)
    (all-pairs _ (Wide (length fl)) (Wide (length fr)) m ls rs hl hr (glued (length fl) (length fr)))
    (all-lone _ (Wide (length fl)) (Wide (length fr)) m ls rs hl hr (length fl) (λ r h. glued (length fl) (length fr) (nulls (length fl)) r (nulls-wide (length fl)) h)))
joined-wide Full m fl fr ls rs hl hr =
    rw (length-append fl fr) (All-append _ (pairs_padded m (length fr) ls rs) (lone m (length fl) ls rs)
    (all-pairs_padded _ (Wide (length fl)) (Wide (length fr)) m ls rs hl hr (length fr) (glued (length fl) (length fr))
    (λ l h. glued (length fl) (length fr) l (nulls (length fr)) h (nulls-wide (length fr))))
    (all-lone _ (Wide (length fl)) (Wide (length fr)) m ls rs hl hr (length fl) (λ r h. glued (length fl) (length fr) (nulls (length fl)) r (nulls-wide (length fl)) h)))
joined-wide LeftSemi m fl fr ls rs hl hr = rw (append-nil fl) (all_keep _ _ ls hl)
joined-wide LeftAnti m fl fr ls rs hl hr = rw (append-nil fl) (all_keep _ _ ls hl)
joined-wide RightSemi m fl fr ls rs hl hr = all_keep _ _ rs hr
joined-wide RightAnti m fl fr ls rs hl hr = all_keep _ _ rs hr

all-map-any : {A : Type 0} (P : Row → Type 0) (f : A → Row) (xs : List A) → ((x : A) → P (f x)) → AllByRecursion P (map f xs)
all-map-any P f xs h = All-map P f xs (all_any (λ x. P (f x)) xs h)

module _ {F : Functions} where
  mutual
    unfolding rows_of

    pub rows-wide : (W : Fitting F) (p : Plan) → AllByRecursion (Wide (length (fields_of F p))) (rows W p)
    rows-wide W (table k q ns) = rw (length-map {B = Field} ns (column_of q)) (all-map-any _ (fit (length ns)) (W.world.contents k) (λ row. fit_wide (length ns) row))
    rows-wide W (projection es i) = all-map-any _ _ (rows W i) (λ row. length-map es _ ∙ sym (length-map es _))
    rows-wide W (filter e i) = all_keep _ _ (rows W i) (rows-wide W i)
    rows-wide W (sort ks i) = all-gather _ _ (rows W i) (rows-wide W i)
    rows-wide W (limit s c i) = cut_all _ s c (rows W i) (rows-wide W i)
    rows-wide W (join k cs l r) = joined-wide k _ (fields_of F l) (fields_of F r) (rows W l) (rows W r) (rows-wide W l) (rows-wide W r)
    rows-wide W (subquery_alias n i) = rw (length-map {B = Field} (fields_of F i) (qualified_by n)) (rows-wide W i)
    rows-wide W (union i is) =
        rw (length-map {B = Field} (fields_of F i) without_qualifier) (All-append _ (rows W i) _ (rows-wide W i) (rows_of-wide W (length (fields_of F i)) is))
    rows-wide W (aggregate gs ts i) = rw (length-map (gs ++ ts) (field_of F)) (all-map-any _ _ _ (λ row. fit_wide (length (gs ++ ts)) row))

    rows_of-wide : (W : Fitting F) (n : ℕ) (is : Plans) → AllByRecursion (Wide n) (further W n is)
    rows_of-wide W n done = tt
    rows_of-wide W n (also i is) = All-append _ _ _ (all-map-any _ (fit n) (rows W i) (λ row. fit_wide n row)) (rows_of-wide W n is)
