-- Plans worked through: what extract and push make of them, written out.
--     same_plan      equality of plans, as a test
--     worked_plans_hold      all of them at once
use Rattle.std.specs.Prelude.{ℕ, zero, suc, ◌+◌, Bool, true, false, ◌&&◌, List, [], ◌∷◌, ◌++◌, map, pos, Some, codes, Option, ◌==◌, from_bits}
use Rattle.std.specs.Float.{binary64}
use Rattle.std.specs.Str.{bytes_eq}
use Rattle.plan.specs.Names.{Name, prefix}
use Rattle.plan.specs.Terms.{Field, Expr, same_expr, same_exprs, arguments}
use Rattle.plan.specs.Terms.Literal.{whole, real, text}
use Rattle.plan.specs.Terms.Expr.{literal, reference, alias, call}
use Rattle.plan.specs.Functions.{Function, Functions}
use Rattle.plan.specs.Rendering.{field_of, unqualified_field}
use Rattle.plan.specs.Fields.{every}
use Rattle.plan.specs.Plans.{Plan, Plans, Key, column_of}
use Rattle.plan.specs.Plans.Plan.{table, projection, filter, sort, limit, aggregate, join, subquery_alias, union}
use Rattle.plan.specs.Plans.Plans.{done, also}
use Rattle.plan.specs.Model.{Space, fits, space}
use Rattle.plan.specs.Faults.{fault, question_number, stage_number}
use Rattle.plan.specs.declared.code.JoinKind.{JoinKind}
use Rattle.plan.specs.declared.code.JoinKind.TheVariants.{Inner, Left, Right, Full, LeftSemi, LeftAnti, RightSemi, RightAnti}
use Rattle.plan.specs.declared.code.Direction.{Direction}
use Rattle.plan.specs.declared.code.Direction.TheVariants.{AscendingNullsFirst, AscendingNullsLast, DescendingNullsFirst, DescendingNullsLast}
use Rattle.plan.specs.declared.code.Rule.{Rule}
use Rattle.plan.specs.declared.code.Rule.TheVariants.{Stay, FirstColumn, AnyColumn, Total}
use Rattle.plan.specs.declared.fault.Question.TheVariants.{Resolved, Lawful, Limited}
use Rattle.plan.specs.declared.fault.Stage.TheVariants.{Extraction, Merge, Rebuilt, Recovery, Closing}
use Rattle.plan.specs.Values.{Value, is_null_value}
use Rattle.plan.specs.Values.Value.{null as null_value, whole as whole_value}
use Rattle.engine.specs.Arithmetic.{alike, arithmetic}
use Rattle.engine.specs.Records.{records}
use Rattle.engine.specs.Strictness.{pair_meaning}
use Rattle.rows.specs.Worlds.{World}
use Rattle.rows.specs.Rows.{value_in}
use Rattle.rows.specs.Standing.{refs, up_from}
use Rattle.rewriting.specs.Generated.{digits_onto, generated, highest, list_names}
use Rattle.rewriting.specs.Outlay.{nothing, start_at}
use Rattle.rewriting.specs.Extracting.{Outcome, built, no_change, refused, extract_from_plan, resolved_in}
use Rattle.rewriting.specs.Pushing.{push}

-- a number for each kind and direction
unfoldable pub kind_number : JoinKind → ℕ
kind_number Inner = 0
kind_number Left = 1
kind_number Right = 2
kind_number Full = 3
kind_number LeftSemi = 4
kind_number LeftAnti = 5
kind_number RightSemi = 6
kind_number RightAnti = 7

unfoldable pub direction_number : Direction → ℕ
direction_number AscendingNullsFirst = 0
direction_number AscendingNullsLast = 1
direction_number DescendingNullsFirst = 2
direction_number DescendingNullsLast = 3

unfoldable pub same_list : List Expr → List Expr → Bool
same_list es ds = same_exprs (arguments es) (arguments ds)

unfoldable pub same_names : List Name → List Name → Bool
same_names [] [] = true
same_names [] (n ∷ ns) = false
same_names (m ∷ ms) [] = false
same_names (m ∷ ms) (n ∷ ns) = bytes_eq m n && same_names ms ns

unfoldable pub same_keys : List Key → List Key → Bool
same_keys [] [] = true
same_keys [] (k ∷ ks) = false
same_keys (j ∷ js) [] = false
same_keys (j ∷ js) (k ∷ ks) = (same_expr j.by k.by && direction_number j.direction == direction_number k.direction) && same_keys js ks

unfoldable mutual
  pub same_plan : Plan → Plan → Bool
  same_plan (table k q ns) (table j p ms) = k == j && (bytes_eq q p && same_names ns ms)
  same_plan (table k q ns) (projection ds o) = false
  same_plan (table k q ns) (filter d o) = false
  same_plan (table k q ns) (sort js o) = false
  same_plan (table k q ns) (limit t d o) = false
  same_plan (table k q ns) (aggregate hs us o) = false
  same_plan (table k q ns) (join j ds m w) = false
  same_plan (table k q ns) (subquery_alias m o) = false
  same_plan (table k q ns) (union o os) = false
  same_plan (projection es i) (table j p ms) = false
  same_plan (projection es i) (projection ds o) = same_list es ds && same_plan i o
  same_plan (projection es i) (filter d o) = false
  same_plan (projection es i) (sort js o) = false
  same_plan (projection es i) (limit t d o) = false
  same_plan (projection es i) (aggregate hs us o) = false
  same_plan (projection es i) (join j ds m w) = false
  same_plan (projection es i) (subquery_alias m o) = false
  same_plan (projection es i) (union o os) = false
  same_plan (filter e i) (table j p ms) = false
  same_plan (filter e i) (projection ds o) = false
  same_plan (filter e i) (filter d o) = same_expr e d && same_plan i o
  same_plan (filter e i) (sort js o) = false
  same_plan (filter e i) (limit t d o) = false
  same_plan (filter e i) (aggregate hs us o) = false
  same_plan (filter e i) (join j ds m w) = false
  same_plan (filter e i) (subquery_alias m o) = false
  same_plan (filter e i) (union o os) = false
  same_plan (sort ks i) (table j p ms) = false
  same_plan (sort ks i) (projection ds o) = false
  same_plan (sort ks i) (filter d o) = false
  same_plan (sort ks i) (sort js o) = same_keys ks js && same_plan i o
  same_plan (sort ks i) (limit t d o) = false
  same_plan (sort ks i) (aggregate hs us o) = false
  same_plan (sort ks i) (join j ds m w) = false
  same_plan (sort ks i) (subquery_alias m o) = false
  same_plan (sort ks i) (union o os) = false
  same_plan (limit s c i) (table j p ms) = false
  same_plan (limit s c i) (projection ds o) = false
  same_plan (limit s c i) (filter d o) = false
  same_plan (limit s c i) (sort js o) = false
  same_plan (limit s c i) (limit t d o) = (s == t && c == d) && same_plan i o
  same_plan (limit s c i) (aggregate hs us o) = false
  same_plan (limit s c i) (join j ds m w) = false
  same_plan (limit s c i) (subquery_alias m o) = false
  same_plan (limit s c i) (union o os) = false
  same_plan (aggregate gs ts i) (table j p ms) = false
  same_plan (aggregate gs ts i) (projection ds o) = false
  same_plan (aggregate gs ts i) (filter d o) = false
  same_plan (aggregate gs ts i) (sort js o) = false
  same_plan (aggregate gs ts i) (limit t d o) = false
  same_plan (aggregate gs ts i) (aggregate hs us o) = (same_list gs hs && same_list ts us) && same_plan i o
  same_plan (aggregate gs ts i) (join j ds m w) = false
  same_plan (aggregate gs ts i) (subquery_alias m o) = false
  same_plan (aggregate gs ts i) (union o os) = false
  same_plan (join k cs l r) (table j p ms) = false
  same_plan (join k cs l r) (projection ds o) = false
  same_plan (join k cs l r) (filter d o) = false
  same_plan (join k cs l r) (sort js o) = false
  same_plan (join k cs l r) (limit t d o) = false
  same_plan (join k cs l r) (aggregate hs us o) = false
  same_plan (join k cs l r) (join j ds m w) = (kind_number k == kind_number j && same_list cs ds) && (same_plan l m && same_plan r w)
  same_plan (join k cs l r) (subquery_alias m o) = false
  same_plan (join k cs l r) (union o os) = false
  same_plan (subquery_alias n i) (table j p ms) = false
  same_plan (subquery_alias n i) (projection ds o) = false
  same_plan (subquery_alias n i) (filter d o) = false
  same_plan (subquery_alias n i) (sort js o) = false
  same_plan (subquery_alias n i) (limit t d o) = false
  same_plan (subquery_alias n i) (aggregate hs us o) = false
  same_plan (subquery_alias n i) (join j ds m w) = false
  same_plan (subquery_alias n i) (subquery_alias m o) = bytes_eq n m && same_plan i o
  same_plan (subquery_alias n i) (union o os) = false
  same_plan (union i is) (table j p ms) = false
  same_plan (union i is) (projection ds o) = false
  same_plan (union i is) (filter d o) = false
  same_plan (union i is) (sort js o) = false
  same_plan (union i is) (limit t d o) = false
  same_plan (union i is) (aggregate hs us o) = false
  same_plan (union i is) (join j ds m w) = false
  same_plan (union i is) (subquery_alias m o) = false
  same_plan (union i is) (union o os) = same_plan i o && same_plans is os

  pub same_plans : Plans → Plans → Bool
  same_plans done done = true
  same_plans done (also o os) = false
  same_plans (also i is) done = false
  same_plans (also i is) (also o os) = same_plan i o && same_plans is os

-- 0 get_field, strict; 1 equal and 2 plus, strict; 3 missing, not strict; 4 a total
abbrev pub declared : Name → ℕ → Rule → Bool → Option Function
declared n k r s = Some (record { name = n; arity = k; rule = r; strict = s })

abbrev pub functions : Functions
functions =
    declared (codes "get_field") 2 FirstColumn true
    ∷ declared (codes "equal") 2 Stay true
    ∷ declared (codes "plus") 2 Stay true
    ∷ declared (codes "missing") 1 AnyColumn false
    ∷ declared (codes "sum") 1 Total true
    ∷ []

abbrev pub first : ℕ
first = 100000000

-- the first and the second alias that a call generates
abbrev pub X : Field
X = unqualified_field (generated first)

abbrev pub Y : Field
Y = unqualified_field (generated (suc first))

abbrev pub event : Field
event = column_of (codes "log") (codes "event")

abbrev pub start : Field
start = column_of (codes "log") (codes "start")

abbrev pub clip_event : Field
clip_event = column_of (codes "clip") (codes "event")

abbrev pub log : Plan
log = table 0 (codes "log") (codes "event" ∷ codes "start" ∷ [])

abbrev pub clip : Plan
clip = table 1 (codes "clip") (codes "event" ∷ [])

abbrev pub two : ℕ → Expr → Expr → Expr
two n a b = call n (arguments (a ∷ b ∷ []))

abbrev pub kind_of : Field → Expr
kind_of f = two 0 (reference f) (literal (text (codes "kind")))

abbrev pub E : Expr
E = kind_of event

abbrev pub number : ℕ → Expr
number n = literal (whole (pos n))

abbrev pub spot : Expr
spot = literal (text (codes "spot"))

abbrev pub named : Name → Field
named n = unqualified_field n

-- log with E beside its own fields
abbrev pub with_e : Plan
with_e = projection (alias E X ∷ reference event ∷ reference start ∷ []) log

-- what was spent is not compared
unfoldable pub same_outcome : Outcome → Outcome → Bool
same_outcome (built p n) (built q m) = same_plan p q && n.next == m.next
same_outcome (built p n) (no_change m) = false
same_outcome (built p n) (refused y m) = false
same_outcome (no_change n) (built q m) = false
same_outcome (no_change n) (no_change m) = n.next == m.next
same_outcome (no_change n) (refused y m) = false
same_outcome (refused x n) (built q m) = false
same_outcome (refused x n) (no_change m) = false
same_outcome (refused x n) (refused y m) =
    (question_number x.question == question_number y.question && stage_number x.stage == stage_number y.stage) && x.level == y.level

abbrev pub extract_gives : Plan → Outcome → Bool
extract_gives p o = same_outcome (extract_from_plan functions p (start_at first)) o

abbrev pub push_gives : Plan → Outcome → Bool
push_gives p o = same_outcome (push functions p (start_at first)) o

abbrev pub push_after : Plan → Outcome → Bool
push_after p o = same_outcome (push functions p (start_at (suc first))) o

-- a Filter with one E over log: a helper column below, and a recovery above
unfoldable pub plan_one : Bool
plan_one = extract_gives (filter (two 1 E spot) log) (built (projection (reference event ∷ reference start ∷ []) (filter (two 1 (reference X) spot) with_e)) (start_at (suc first)))

-- nothing is Marked
unfoldable pub plan_two : Bool
plan_two = extract_gives (filter (two 1 (reference start) (number 5)) log) (no_change (start_at first))

abbrev pub later : Expr
later = alias (two 2 (reference start) (number 50)) (named (codes "start"))

-- under a Limit; a list that is not wholly captured is recovered
unfoldable pub plan_three : Bool
plan_three =
    push_after (projection (reference event ∷ later ∷ alias E X ∷ []) (limit 0 3 log)) (built (projection (reference event ∷ later ∷ reference X ∷ []) (limit 0 3 with_e)) (start_at (suc first)))

-- a list that is wholly captured is closed with the old fields
unfoldable pub plan_four : Bool
plan_four =
    push_after (projection (reference event ∷ reference start ∷ alias E X ∷ []) (limit 0 3 log))
    (built (projection (reference event ∷ reference start ∷ reference X ∷ []) (limit 0 3 with_e)) (start_at (suc first)))

abbrev pub left_join : Plan
left_join = join Left [] log clip

abbrev pub missing : Expr
missing = call 3 (arguments (reference clip_event ∷ []))

-- what is not null-keeping stays above a Join that pads its side
unfoldable pub plan_five : Bool
plan_five =
    push_gives (projection (alias missing (named (codes "m")) ∷ []) left_join)
    (built (projection (alias (reference X) (named (codes "m")) ∷ []) (projection (alias missing X ∷ reference event ∷ reference start ∷ reference clip_event ∷ []) left_join)) (start_at (suc first)))

-- what is null-keeping goes below it
unfoldable pub plan_six : Bool
plan_six =
    push_gives (projection (alias (kind_of clip_event) (named (codes "k")) ∷ []) left_join)
    (built (projection (alias (reference X) (named (codes "k")) ∷ []) (join Left [] log (projection (alias (kind_of clip_event) X ∷ reference clip_event ∷ []) clip))) (start_at (suc first)))

-- a Table `w` of n columns
abbrev pub wide_names : ℕ → List Name
wide_names n = map (λ k. codes "c" ++ digits_onto 2 k []) (up_from 0 n)

abbrev pub wide : ℕ → Plan
wide n = table 0 (codes "w") (wide_names n)

abbrev pub wide_refs : ℕ → List Expr
wide_refs n = refs (map (column_of (codes "w")) (wide_names n))

abbrev pub wide_kind : Expr
wide_kind = kind_of (column_of (codes "w") (codes "c00"))

-- 64 fields leave no place for a helper column, be it over a Table or merged into a Projection; 63 do
unfoldable pub plan_seven : Bool
plan_seven =
    extract_gives (filter (two 1 wide_kind spot) (wide 64)) (refused (fault Limited Extraction 0) (start_at first))
    && extract_gives (filter (two 1 wide_kind spot) (projection (wide_refs 64) (wide 64))) (refused (fault Limited Merge 0) (start_at first))
    && extract_gives (filter (two 1 wide_kind spot) (wide 63))
    (built (projection (wide_refs 63) (filter (two 1 (reference X) spot) (projection (alias wide_kind X ∷ wide_refs 63) (wide 63)))) (start_at (suc first)))

-- past the last number: 8, stage 2
unfoldable pub no_number : Bool
no_number = same_outcome (extract_from_plan functions (filter (two 1 E spot) log) (start_at 1000000000)) (refused (fault Limited Extraction 0) (start_at first))

-- down two Limits
unfoldable pub two_limits : Bool
two_limits =
    push_after (projection (reference event ∷ alias E X ∷ []) (limit 1 9 (limit 0 3 log))) (built (projection (reference event ∷ reference X ∷ []) (limit 1 9 (limit 0 3 with_e))) (start_at (suc first)))

-- through a SubqueryAlias, under the fields of its input; the helper column gets a qualifier there, and the closing takes it off
unfoldable pub renamed : Bool
renamed =
    push_after (projection (alias (kind_of (column_of (codes "s") (codes "event"))) X ∷ reference (column_of (codes "s") (codes "event")) ∷ []) (subquery_alias (codes "s") clip))
    (built (projection (reference X ∷ reference (column_of (codes "s") (codes "event")) ∷ []) (subquery_alias (codes "s") (projection (alias (kind_of clip_event) X ∷ reference clip_event ∷ []) clip))) (start_at (suc first)))

-- into each input of a Union
unfoldable pub over_union : Bool
over_union =
    push_after (projection (alias (kind_of (named (codes "event"))) X ∷ reference (named (codes "event")) ∷ []) (union clip (also clip done)))
    (built (union (projection (alias (kind_of clip_event) X ∷ reference clip_event ∷ []) clip) (also (projection (alias (kind_of clip_event) X ∷ reference clip_event ∷ []) clip) done)) (start_at (suc first)))

-- from a Join's condition to both sides
unfoldable pub both_sides : Bool
both_sides =
    extract_gives (join Inner (two 1 E (kind_of clip_event) ∷ []) log clip)
    (built (projection (reference event ∷ reference start ∷ reference clip_event ∷ [])
    (join Inner (two 1 (reference X) (reference Y) ∷ []) with_e (projection (alias (kind_of clip_event) Y ∷ reference clip_event ∷ []) clip))) (start_at (2 + first)))

abbrev pub sum_of : Expr → Expr
sum_of e = call 4 (arguments (e ∷ []))

-- a total's column is recovered by place
unfoldable pub by_place_total : Bool
by_place_total =
    extract_gives (aggregate [] (sum_of E ∷ []) log)
    (built (projection (alias (reference (field_of functions (sum_of (reference X)))) (field_of functions (sum_of E)) ∷ []) (aggregate [] (sum_of (reference X) ∷ []) with_e)) (start_at (suc first)))

abbrev pub paired : Plan
paired = projection (alias (reference event) (named (codes "p")) ∷ reference clip_event ∷ []) (join Inner [] log clip)

-- a passed-through log.event makes the Filter's own `event` mean two fields: 6, stage 4
unfoldable pub ambiguous : Bool
ambiguous = extract_gives (filter (two 1 (kind_of (named (codes "p"))) (reference (named (codes "event")))) paired) (refused (fault Resolved Rebuilt 0) (start_at first))

-- two levels down it becomes s.event beside another s.event: 7, stage 4, level 2
unfoldable pub deeper : Bool
deeper =
    push_after (projection (alias (kind_of (column_of (codes "s") (codes "p"))) X ∷ []) (limit 0 9 (limit 0 9 (subquery_alias (codes "s") paired)))) (refused (fault Lawful Rebuilt 2) (start_at first))

-- a prefixed alias that the input has as a field already: 7, stage 2
unfoldable pub taken_name : Bool
taken_name =
    push_after (projection (alias E X ∷ []) (limit 0 9 (table 0 (codes "log") (codes "event" ∷ generated first ∷ [])))) (refused (fault Lawful Extraction 0) (start_at first))

abbrev pub E₂ : Expr
E₂ = two 0 (reference event) (literal (text (codes "size")))

abbrev pub p₀ : Expr
p₀ = two 1 (reference X) spot

-- over a recovery over a Filter over an extraction: merged twice, and each time with the needed columns
unfoldable pub through_recovery : Bool
through_recovery =
    same_outcome (push functions (projection (alias E₂ Y ∷ reference event ∷ []) (projection (reference event ∷ reference start ∷ []) (filter p₀ with_e))) (start_at (2 + first)))
    (built (projection (reference Y ∷ reference event ∷ []) (projection (reference event ∷ reference start ∷ reference Y ∷ [])
    (filter p₀ (projection (alias E X ∷ reference event ∷ reference start ∷ alias E₂ Y ∷ []) log)))) (start_at (2 + first)))

abbrev pub bare : Field
bare = named (codes "event")

abbrev pub uneven : Plan
uneven = union clip (also (projection (alias (two 1 (kind_of clip_event) (number 5)) bare ∷ []) (limit 0 9 clip)) done)

-- a Union whose rebuilt inputs do not fit is left alone, and the number that the trial took stays taken
unfoldable pub trial_number : Bool
trial_number =
    push_gives (projection (alias (kind_of bare) (named (codes "k")) ∷ []) uneven)
    (built (projection (alias (reference X) (named (codes "k")) ∷ []) (projection (alias (kind_of bare) X ∷ reference bare ∷ []) uneven)) (start_at (2 + first)))

-- the smallest plans on which the definitions and the Rust part; the sets of names agree, but four columns stand against three: recovered
unfoldable pub four_for_three : Bool
four_for_three =
    push_after (projection (reference event ∷ reference start ∷ alias E X ∷ []) (join Inner [] log clip))
    (built (projection (reference event ∷ reference start ∷ reference X ∷ []) (join Inner [] with_e clip)) (start_at (suc first)))

-- first in one input, last in the other, where it was merged: the Union is left alone
unfoldable pub uneven_places : Bool
uneven_places = push_after (projection (alias (kind_of bare) X ∷ reference bare ∷ []) (union clip (also (projection (reference clip_event ∷ []) clip) done))) (no_change (start_at (suc first)))

abbrev pub written : Field
written = named (codes "log.event")

-- log.event is the field of log, and not the column that is written so
unfoldable pub flat_name : Bool
flat_name =
    push_after (projection (alias E X ∷ []) (projection (reference event ∷ alias (reference start) written ∷ []) log))
    (built (projection (reference X ∷ []) (projection (reference event ∷ alias (reference start) written ∷ alias E X ∷ []) log)) (start_at (suc first)))

abbrev pub record_field : Field
record_field = column_of (codes "t") (codes "e")

-- `event` means q.event, and so t.e
unfoldable pub by_field : Bool
by_field =
    push_after (projection (alias (kind_of bare) X ∷ []) (projection (alias (reference record_field) (column_of (codes "q") (codes "event")) ∷ []) (table 2 (codes "t") (codes "e" ∷ []))))
    (built (projection (reference X ∷ []) (projection (alias (reference record_field) (column_of (codes "q") (codes "event")) ∷ alias (kind_of record_field) X ∷ reference record_field ∷ []) (table 2 (codes "t") (codes "e" ∷ [])))) (start_at (suc first)))

-- a name without qualifier comes out with one
unfoldable pub qualifies : Bool
qualifies =
    push_after (projection (alias (kind_of bare) X ∷ []) (subquery_alias (codes "s") clip))
    (built (projection (reference X ∷ []) (subquery_alias (codes "s") (projection (alias (kind_of clip_event) X ∷ reference clip_event ∷ []) clip))) (start_at (suc first)))

abbrev pub both : Plan
both = projection (alias E X ∷ alias E Y ∷ reference event ∷ []) log

-- E stands there as X, and as Y too: it is not added again
unfoldable pub same_alias : Bool
same_alias =
    same_outcome (push functions (projection (alias E X ∷ reference event ∷ []) both) (start_at (2 + first))) (built (projection (reference X ∷ reference event ∷ []) both) (start_at (2 + first)))

-- log.event is not passed through beside an unqualified `event`
unfoldable pub left_out : Bool
left_out =
    push_after (projection (alias (kind_of (named (codes "e"))) X ∷ []) (projection (alias (reference start) bare ∷ alias (reference event) (named (codes "e")) ∷ []) log))
    (built (projection (reference X ∷ []) (projection (alias (reference start) bare ∷ alias (reference event) (named (codes "e")) ∷ alias E X ∷ []) log)) (start_at (suc first)))

-- X means something else below an Aggregate's groups and below a list that is not wholly captured: neither is tried
unfoldable pub untried : Bool
untried =
    push_after (projection (alias E X ∷ []) (aggregate (alias E₂ X ∷ reference event ∷ []) [] log)) (no_change (start_at (suc first)))
    && push_after (projection (alias (two 2 (reference start) (number 1)) (named (codes "s")) ∷ alias E X ∷ []) (projection (alias E₂ X ∷ reference event ∷ reference start ∷ []) log)) (no_change (start_at (suc first)))

-- a key with one E: a helper column below, and a recovery above
unfoldable pub sorted : Bool
sorted =
    extract_gives (sort (record { by = E; direction = AscendingNullsLast } ∷ []) log)
    (built (projection (reference event ∷ reference start ∷ []) (sort (record { by = reference X; direction = AscendingNullsLast } ∷ []) with_e)) (start_at (suc first)))

abbrev pub as_p : Field
as_p = named (codes "p")

abbrev pub as_q : Field
as_q = named (codes "q")

-- merged into a Projection; q stays in the predicate, and so the column behind it is passed through as well
unfoldable pub plain_needed : Bool
plain_needed =
    extract_gives (filter (two 1 (kind_of as_p) (reference as_q)) (projection (alias (reference event) as_p ∷ alias (reference start) as_q ∷ []) log))
    (built (projection (reference as_p ∷ reference as_q ∷ []) (filter (two 1 (reference X) (reference as_q))
    (projection (alias (reference event) as_p ∷ alias (reference start) as_q ∷ alias E X ∷ reference event ∷ reference start ∷ []) log))) (start_at (suc first)))

-- down a Sort
unfoldable pub under_sort : Bool
under_sort =
    push_after (projection (reference event ∷ alias E X ∷ []) (sort (record { by = reference start; direction = DescendingNullsLast } ∷ []) log))
    (built (projection (reference event ∷ reference X ∷ []) (sort (record { by = reference start; direction = DescendingNullsLast } ∷ []) with_e)) (start_at (suc first)))

-- from a semi join's condition to both sides, though the right one does not show
unfoldable pub semi : Bool
semi =
    extract_gives (join LeftSemi (two 1 E (kind_of clip_event) ∷ []) log clip)
    (built (projection (reference event ∷ reference start ∷ [])
    (join LeftSemi (two 1 (reference X) (reference Y) ∷ []) with_e (projection (alias (kind_of clip_event) Y ∷ reference clip_event ∷ []) clip))) (start_at (2 + first)))

abbrev pub named_x : Plan
named_x = projection (alias (two 0 (reference event) (literal (text (codes "name")))) X ∷ reference event ∷ []) log

-- X stands for something else in the Projection that it would be merged into: 7, stage 3, at level 0 and at level 1
unfoldable pub other_alias : Bool
other_alias =
    push_after (projection (alias E X ∷ []) named_x) (refused (fault Lawful Merge 0) (start_at first))
    && push_after (projection (alias E X ∷ []) (projection (reference event ∷ []) (limit 0 9 named_x))) (refused (fault Lawful Merge 1) (start_at first))

unfoldable pub limits : ℕ → Plan → Plan
limits zero i = i
limits (suc n) i = limit 0 3 (limits n i)

-- 64 nodes with the Projection; the closing, or the recovery, would be one more
unfoldable pub too_high : Bool
too_high =
    push_after (projection (reference event ∷ reference start ∷ alias E X ∷ []) (limits 62 log)) (refused (fault Limited Closing 0) (start_at first))
    && push_after (projection (reference event ∷ later ∷ alias E X ∷ []) (limits 62 log)) (refused (fault Limited Recovery 0) (start_at first))

-- by the field it is log.start, which the left side owns alone; there it meets the other X, which the join does not show: 7, stage 4, level 1
unfoldable pub hidden_alias : Bool
hidden_alias =
    push_after (projection (alias (kind_of (named (codes "start"))) X ∷ [])
    (subquery_alias (codes "q") (join LeftAnti [] log (projection (alias (kind_of clip_event) X ∷ alias (reference clip_event) (column_of (codes "s") (codes "start")) ∷ []) clip))))
    (refused (fault Lawful Rebuilt 1) (start_at first))

-- it does not go to the padded side, and over the Join the extraction would have X twice: 7, stage 2
unfoldable pub held_above : Bool
held_above =
    push_after (projection (alias missing (named (codes "m")) ∷ alias (reference X) X ∷ []) (join Left [] log (projection (reference clip_event ∷ alias (kind_of clip_event) X ∷ []) clip)))
    (refused (fault Lawful Extraction 0) (start_at first))

-- what resolves to no field of the Projection is left as it is
unfoldable pub left_alone : Bool
left_alone = same_expr (resolved_in functions (reference event ∷ []) (two 1 E (reference start))) (two 1 E (reference start))

-- equal expressions get one alias; 0.0 and -0.0 are not equal
abbrev pub zero_of : ℕ → Expr
zero_of bits = two 0 (reference event) (literal (real (from_bits binary64 bits)))

unfoldable pub twice : Bool
twice =
    extract_gives (filter (two 1 E E) log) (built (projection (reference event ∷ reference start ∷ []) (filter (two 1 (reference X) (reference X)) with_e)) (start_at (suc first)))
    && extract_gives (filter (two 1 (zero_of 0) (zero_of 9223372036854775808)) log) (built (projection (reference event ∷ reference start ∷ []) (filter (two 1 (reference X) (reference Y))
    (projection (alias (zero_of 0) X ∷ alias (zero_of 9223372036854775808) Y ∷ reference event ∷ reference start ∷ []) log))) (start_at (2 + first)))

-- what is Marked under a prefixed alias is left there
unfoldable pub under_prefix : Bool
under_prefix = extract_gives (filter (two 1 (alias E X) spot) log) (no_change (start_at first))

-- the first number of a call: above all numbers after the prefix in names and text literals, and nine digits long
unfoldable pub numbers : Bool
numbers =
    (suc (highest 99999999 (list_names (literal (text (generated (4 + first))) ∷ alias E X ∷ []))) == 5 + first)
    && suc (highest 99999999 (list_names (alias E (named (prefix ++ codes "_7")) ∷ literal (text (codes "a" ++ generated (4 + first))) ∷ literal (text (generated (4 + first) ++ codes "a")) ∷ []))) == first

unfoldable pub spent_in : Outcome → Space
spent_in (built p n) = n.spent
spent_in (no_change n) = n.spent
spent_in (refused x n) = n.spent

unfoldable pub same_space : Space → Space → Bool
same_space a b = (a.exprs == b.exprs && a.plans == b.plans) && (a.entries == b.entries && (a.fields == b.fields && a.bytes == b.bytes))

-- what the first plan spends: the condition, the list below and the list above, three nodes with 3, 3 and 2 fields. The push through a SubqueryAlias:
-- the list that would recover, the renamed pair, the list below, the list that would recover that, the closing; three nodes of 2 fields.
-- Nothing where nothing is taken out
unfoldable pub spent : Bool
spent =
    same_space (spent_in (extract_from_plan functions (filter (two 1 E spot) log) (start_at first))) (space 11 3 9 8 112)
    && same_space (spent_in (push functions (projection (alias (kind_of (column_of (codes "s") (codes "event"))) X ∷ reference (column_of (codes "s") (codes "event")) ∷ []) (subquery_alias (codes "s") clip)) (start_at (suc first)))) (space 14 3 8 6 185)
    && same_space (spent_in (extract_from_plan functions (filter (two 1 (reference start) (number 5)) log) (start_at first))) nothing
    && same_space (spent_in (push functions (projection (reference event ∷ []) (limit 0 9 log)) (start_at first))) nothing

-- what the first and the sixth plan spend has room in an empty book
unfoldable pub cheap : Bool
cheap =
    fits nothing (spent_in (extract_from_plan functions (filter (two 1 E spot) log) (start_at first)))
    && fits nothing (spent_in (push functions (projection (alias (kind_of clip_event) (named (codes "k")) ∷ []) left_join) (start_at first)))

-- get_field over no records, and from function 1 on arithmetic
abbrev pub world : World
world = record {
  book_text = [];
  row_text = [];
  meaning = pair_meaning 1 (λ book row. records (λ k name. null_value)) (λ book row. arithmetic);
  contents = λ k. [];
  arrange = λ ds ks. [];
  group = λ ts ks. [];
}

-- on a row of log that starts at 2
abbrev pub value_of : Expr → Value
value_of e = value_in world (event ∷ start ∷ []) (null_value ∷ whole_value (pos 2) ∷ []) e

-- an overflowing sum is null, and 50 frames are added to 2
unfoldable pub plan_eight : Bool
plan_eight = is_null_value (value_of (two 2 (number 9223372036854775807) (number 1))) && alike (value_of later) (whole_value (pos 52))

unfoldable pub worked_plans_hold : Bool
worked_plans_hold =
    every (λ t. t) (
    plan_one ∷ plan_two ∷ plan_three ∷ plan_four ∷ plan_five ∷ plan_six ∷ plan_seven ∷ plan_eight ∷ no_number ∷ two_limits ∷ renamed ∷ over_union ∷ both_sides ∷ by_place_total ∷ ambiguous ∷ deeper ∷ taken_name ∷ through_recovery ∷ trial_number ∷ four_for_three ∷ uneven_places ∷ flat_name ∷ by_field ∷ qualifies ∷ same_alias ∷ left_out ∷ untried ∷ sorted ∷ plain_needed ∷ under_sort ∷ semi ∷ other_alias ∷ too_high ∷ hidden_alias ∷ held_above ∷ left_alone ∷ twice ∷ under_prefix ∷ numbers ∷ spent ∷ cheap ∷ []
    )
