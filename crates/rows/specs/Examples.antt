-- Small plans with their rows written out: every kind of node, and every kind of Join over duplicates, nulls and rows without a match.
--     same_value, same_rows      equality of values and of rows, as tests
--     examples_hold      all examples at once
use Rattle.std.specs.Prelude.{ℕ, zero, suc, Bool, true, false, cond, ◌&&◌, ◌||◌, List, [], ◌∷◌, ◌++◌, map, pos, codes, ◌==◌}
use Rattle.std.specs.Str.{bytes_eq}
use Rattle.plan.specs.Names.{Name}
use Rattle.plan.specs.Terms.{Expr, same_real, same_truth, same_whole}
use Rattle.plan.specs.Terms.Literal.{null as null_literal, whole as whole_literal}
use Rattle.plan.specs.Terms.Expr.{literal, reference, alias, call}
use Rattle.plan.specs.Terms.Exprs.{none, more}
use Rattle.plan.specs.Fields.{every}
use Rattle.plan.specs.Plans.{Plan, column_of}
use Rattle.plan.specs.Rendering.{unqualified_field}
use Rattle.plan.specs.Plans.Plan.{table, projection, filter, sort, limit, aggregate, join, subquery_alias, union}
use Rattle.plan.specs.Plans.Plans.{done, also}
use Rattle.plan.specs.Values.{Value, is_null_value}
use Rattle.plan.specs.Values.Value.{null, truth, whole, real, text, record_number}
use Rattle.plan.specs.declared.code.Direction.TheVariants.{AscendingNullsFirst}
use Rattle.plan.specs.declared.code.JoinKind.{JoinKind}
use Rattle.plan.specs.declared.code.JoinKind.TheVariants.{Inner, Left, Right, Full, LeftSemi, LeftAnti, RightSemi, RightAnti}
use Rattle.rows.specs.Worlds.{Row, World}
use Rattle.rows.specs.Rows.{rows_of}

unfoldable pub same_value : Value → Value → Bool
same_value null null = true
same_value null (truth b) = false
same_value null (whole n) = false
same_value null (real y) = false
same_value null (text t) = false
same_value null (record_number j) = false
same_value (truth a) null = false
same_value (truth a) (truth b) = same_truth a b
same_value (truth a) (whole n) = false
same_value (truth a) (real y) = false
same_value (truth a) (text t) = false
same_value (truth a) (record_number j) = false
same_value (whole m) null = false
same_value (whole m) (truth b) = false
same_value (whole m) (whole n) = same_whole m n
same_value (whole m) (real y) = false
same_value (whole m) (text t) = false
same_value (whole m) (record_number j) = false
same_value (real x) null = false
same_value (real x) (truth b) = false
same_value (real x) (whole n) = false
same_value (real x) (real y) = same_real x y
same_value (real x) (text t) = false
same_value (real x) (record_number j) = false
same_value (text s) null = false
same_value (text s) (truth b) = false
same_value (text s) (whole n) = false
same_value (text s) (real y) = false
same_value (text s) (text t) = bytes_eq s t
same_value (text s) (record_number j) = false
same_value (record_number i) null = false
same_value (record_number i) (truth b) = false
same_value (record_number i) (whole n) = false
same_value (record_number i) (real y) = false
same_value (record_number i) (text t) = false
same_value (record_number i) (record_number j) = i == j

unfoldable pub same_row : Row → Row → Bool
same_row [] [] = true
same_row [] (w ∷ ws) = false
same_row (v ∷ vs) [] = false
same_row (v ∷ vs) (w ∷ ws) = same_value v w && same_row vs ws

unfoldable pub same_rows : List Row → List Row → Bool
same_rows [] [] = true
same_rows [] (s ∷ ss) = false
same_rows (r ∷ rs) [] = false
same_rows (r ∷ rs) (s ∷ ss) = same_row r s && same_rows rs ss

-- the engine of the examples: function 0 compares two values, and is null where one is null
unfoldable pub compared : List Value → Value
compared [] = null
compared (a ∷ []) = null
compared (a ∷ b ∷ vs) = cond (is_null_value a || is_null_value b) null (truth (same_value a b))

abbrev pub n : ℕ → Value
n k = whole (pos k)

-- table 1 is `l` with column `a`, table 2 is `r` with column `b`, and others are empty; a row of table 2 is too short, and one too long
unfoldable pub contents_of : ℕ → List Row
contents_of zero = []
contents_of (suc zero) = (n 1 ∷ []) ∷ (n 2 ∷ []) ∷ (n 2 ∷ []) ∷ (null ∷ []) ∷ (n 5 ∷ []) ∷ []
contents_of (suc (suc zero)) = (n 2 ∷ []) ∷ (n 2 ∷ n 7 ∷ []) ∷ (n 3 ∷ []) ∷ [] ∷ []
contents_of (suc (suc (suc k))) = []

-- rows 4, 0 and 1 in that order; position 9 is past the end. Each row is a group, with no value for its totals
abbrev pub world : World
world = record {
  book_text = [];
  row_text = [];
  meaning = λ b t k vs. compared vs;
  contents = contents_of;
  arrange = λ ds ks. 4 ∷ 9 ∷ 0 ∷ 1 ∷ [];
  group = λ ts ks. map (λ k. k.0) ks;
}

abbrev pub column : Name → Name → Expr
column q c = reference (column_of q c)

abbrev pub a : Expr
a = column (codes "l") (codes "a")

abbrev pub b : Expr
b = column (codes "r") (codes "b")

abbrev pub equal : Expr → Expr → Expr
equal d e = call 0 (more d (more e none))

abbrev pub number : ℕ → Expr
number k = literal (whole_literal (pos k))

abbrev pub l : Plan
l = table 1 (codes "l") (codes "a" ∷ [])

abbrev pub r : Plan
r = table 2 (codes "r") (codes "b" ∷ [])

abbrev pub empty : Plan
empty = table 3 (codes "r") (codes "b" ∷ [])

unfoldable pub gives : Plan → List Row → Bool
gives p rows = same_rows (rows_of [] world p) rows

-- the Join of l with r, where a and b are equal; with no row at the right, and at the left; and where the condition is null
abbrev pub on : JoinKind → Plan
on k = join k (equal a b ∷ []) l r

abbrev pub with_empty : JoinKind → Plan
with_empty k = join k [] l empty

abbrev pub from_empty : JoinKind → Plan
from_empty k = join k [] (table 4 (codes "l") (codes "a" ∷ [])) (limit 1 2 r)

abbrev pub never_true : JoinKind → Plan
never_true k = join k (literal null_literal ∷ []) (limit 0 1 l) (limit 2 1 r)

unfoldable pub nodes_hold : Bool
nodes_hold =
    every (λ t. t) (
    gives r ((n 2 ∷ []) ∷ (n 2 ∷ []) ∷ (n 3 ∷ []) ∷ (null ∷ []) ∷ [])
    ∷ gives empty []
    ∷ gives (projection (a ∷ alias (number 4) (unqualified_field (codes "four")) ∷ []) (limit 0 2 l)) ((n 1 ∷ n 4 ∷ []) ∷ (n 2 ∷ n 4 ∷ []) ∷ [])
    ∷ gives (filter (equal a (number 2)) l) ((n 2 ∷ []) ∷ (n 2 ∷ []) ∷ [])
    ∷ gives (filter (literal null_literal) l) []
    ∷ gives (filter a l) []
    ∷ gives (sort (record { by = a; direction = AscendingNullsFirst } ∷ []) l) ((n 5 ∷ []) ∷ (n 1 ∷ []) ∷ (n 2 ∷ []) ∷ [])
    ∷ gives (limit 1 2 l) ((n 2 ∷ []) ∷ (n 2 ∷ []) ∷ [])
    ∷ gives (limit 4 9 l) ((n 5 ∷ []) ∷ [])
    ∷ gives (limit 6 1 l) []
    ∷ gives (limit 0 0 l) []
    ∷ gives (aggregate (a ∷ []) (call 1 (more a none) ∷ []) (limit 0 2 l)) ((n 1 ∷ null ∷ []) ∷ (n 2 ∷ null ∷ []) ∷ [])
    ∷ gives (subquery_alias (codes "s") (limit 4 1 l)) ((n 5 ∷ []) ∷ [])
    ∷ gives (filter (equal (column (codes "s") (codes "a")) (number 5)) (subquery_alias (codes "s") l)) ((n 5 ∷ []) ∷ [])
    ∷ gives (union (limit 0 2 l) (also (limit 2 1 r) (also (limit 0 1 l) done))) ((n 1 ∷ []) ∷ (n 2 ∷ []) ∷ (n 3 ∷ []) ∷ (n 1 ∷ []) ∷ [])
    ∷ []
    )

abbrev pub four_pairs : List Row
four_pairs = (n 2 ∷ n 2 ∷ []) ∷ (n 2 ∷ n 2 ∷ []) ∷ (n 2 ∷ n 2 ∷ []) ∷ (n 2 ∷ n 2 ∷ []) ∷ []

abbrev pub lonely : List Row
lonely = (null ∷ n 3 ∷ []) ∷ (null ∷ null ∷ []) ∷ []

abbrev pub all_left : List Row
all_left = (n 1 ∷ null ∷ []) ∷ (four_pairs ++ (null ∷ null ∷ []) ∷ (n 5 ∷ null ∷ []) ∷ [])

abbrev pub padded : List Row
padded = (n 1 ∷ null ∷ []) ∷ (n 2 ∷ null ∷ []) ∷ (n 2 ∷ null ∷ []) ∷ (null ∷ null ∷ []) ∷ (n 5 ∷ null ∷ []) ∷ []

abbrev pub rows_of_l : List Row
rows_of_l = contents_of 1

unfoldable pub joins_hold : Bool
joins_hold =
    every (λ t. t) (
    gives (on Inner) four_pairs
    ∷ gives (on Left) all_left
    ∷ gives (on Right) (four_pairs ++ lonely)
    ∷ gives (on Full) (all_left ++ lonely)
    ∷ gives (on LeftSemi) ((n 2 ∷ []) ∷ (n 2 ∷ []) ∷ [])
    ∷ gives (on LeftAnti) ((n 1 ∷ []) ∷ (null ∷ []) ∷ (n 5 ∷ []) ∷ [])
    ∷ gives (on RightSemi) ((n 2 ∷ []) ∷ (n 2 ∷ []) ∷ [])
    ∷ gives (on RightAnti) ((n 3 ∷ []) ∷ (null ∷ []) ∷ [])
    ∷ gives (with_empty Inner) []
    ∷ gives (with_empty Left) padded
    ∷ gives (with_empty Right) []
    ∷ gives (with_empty Full) padded
    ∷ gives (with_empty LeftSemi) []
    ∷ gives (with_empty LeftAnti) rows_of_l
    ∷ gives (with_empty RightSemi) []
    ∷ gives (with_empty RightAnti) []
    ∷ gives (from_empty Inner) []
    ∷ gives (from_empty Left) []
    ∷ gives (from_empty Right) ((null ∷ n 2 ∷ []) ∷ (null ∷ n 3 ∷ []) ∷ [])
    ∷ gives (from_empty Full) ((null ∷ n 2 ∷ []) ∷ (null ∷ n 3 ∷ []) ∷ [])
    ∷ gives (from_empty LeftSemi) []
    ∷ gives (from_empty LeftAnti) []
    ∷ gives (from_empty RightSemi) []
    ∷ gives (from_empty RightAnti) ((n 2 ∷ []) ∷ (n 3 ∷ []) ∷ [])
    ∷ gives (never_true Inner) []
    ∷ gives (never_true Left) ((n 1 ∷ null ∷ []) ∷ [])
    ∷ gives (never_true Right) ((null ∷ n 3 ∷ []) ∷ [])
    ∷ gives (never_true Full) ((n 1 ∷ null ∷ []) ∷ (null ∷ n 3 ∷ []) ∷ [])
    ∷ gives (never_true LeftSemi) []
    ∷ gives (never_true LeftAnti) ((n 1 ∷ []) ∷ [])
    ∷ gives (never_true RightSemi) []
    ∷ gives (never_true RightAnti) ((n 3 ∷ []) ∷ [])
    ∷ gives (join Inner [] (limit 0 2 l) (limit 2 1 r)) ((n 1 ∷ n 3 ∷ []) ∷ (n 2 ∷ n 3 ∷ []) ∷ [])
    ∷ []
    )

unfoldable pub examples_hold : Bool
examples_hold = nodes_hold && joins_hold
