-- The rows that a plan means, by the rules of SQL.
--     may_mean r f, seek r fs      the reference r may mean the field f; the place of the first field that it may mean
--     literal_value v      the value of a literal
--     value_in w fs row e      the value of an expression on a row with the fields fs
--     joined k m a b ls rs      the rows of a Join of a columns with b columns, where m says which rows match
--     rows_of fs w p      the rows of the plan p in the world w, where fs are the functions
use Rattle.std.specs.Prelude.{ℕ, suc, Bool, true, false, cond, not, ◌&&◌, List, [], ◌∷◌, ◌++◌, map, length, take, drop, replicate, from_bits, slice_index_or, to_bits}
use Rattle.std.specs.Float.{binary64}
use Rattle.std.specs.Str.{bytes_eq}
use Rattle.plan.specs.Terms.{Qualifier, Field, Literal, Expr, Exprs}
use Rattle.plan.specs.Terms.Qualifier.{unqualified, qualified}
use Rattle.plan.specs.Terms.Expr.{literal, reference, alias, call}
use Rattle.plan.specs.Terms.Exprs.{none, more}
use Rattle.plan.specs.Functions.{Functions}
use Rattle.plan.specs.Fields.{any, every}
use Rattle.plan.specs.Plans.{Plan, Plans, Key, fields_of}
use Rattle.plan.specs.Plans.Plan.{table, projection, filter, sort, limit, aggregate, join, subquery_alias, union}
use Rattle.plan.specs.Plans.Plans.{done, also}
use Rattle.plan.specs.Terms.Literal.{null as null_literal, truth as truth_literal, whole as whole_literal, real as real_literal, text as text_literal}
use Rattle.plan.specs.Values.{Value, is_true}
use Rattle.plan.specs.Values.Value.{null, truth, whole, real, text}
use Rattle.plan.specs.declared.code.JoinKind.{JoinKind}
use Rattle.plan.specs.declared.code.JoinKind.TheVariants.{Inner, Left, Right, Full, LeftSemi, LeftAnti, RightSemi, RightAnti}
use Rattle.rows.specs.Lists.{keep, or_else, gather, each}
use Rattle.rows.specs.Worlds.{Row, World, applied}

-- no qualifier asked for, or the same one
unfoldable pub under : Qualifier → Qualifier → Bool
under unqualified q = true
under (qualified a) unqualified = false
under (qualified a) (qualified b) = bytes_eq a b

unfoldable pub may_mean : Field → Field → Bool
may_mean r f = under r.qualifier f.qualifier && bytes_eq r.name f.name

-- the number of fields where there is none
unfoldable pub seek : Field → List Field → ℕ
seek r [] = 0
seek r (f ∷ fs) = cond (may_mean r f) 0 (suc (seek r fs))

-- a real is what its bits tell, so that literals that are equal as expressions have one value
abbrev pub literal_value : Literal → Value
literal_value null_literal = null
literal_value (truth_literal b) = truth b
literal_value (whole_literal n) = whole n
literal_value (real_literal x) = real (from_bits binary64 (to_bits binary64 x))
literal_value (text_literal t) = text t

-- a reference means its field's value, a literal itself, an alias its inside, a call what the engine gives
unfoldable mutual
  pub value_in : World → List Field → Row → Expr → Value
  value_in w fs row (literal v) = literal_value v
  value_in w fs row (reference r) = slice_index_or row (seek r fs) null
  value_in w fs row (alias e f) = value_in w fs row e
  value_in w fs row (call n es) = applied w n (values_in w fs row es)

  pub values_in : World → List Field → Row → Exprs → List Value
  values_in w fs row none = []
  values_in w fs row (more e es) = value_in w fs row e ∷ values_in w fs row es

-- true, and neither false nor null
unfoldable pub holds : World → List Field → Expr → Row → Bool
holds w fs e row = is_true (value_in w fs row e)

-- all conditions are true; with none, every pair matches
unfoldable pub matches : World → List Field → List Expr → Row → Row → Bool
matches w fs cs l r = every (λ c. holds w fs c (l ++ r)) cs

unfoldable pub nulls : ℕ → Row
nulls n = replicate n null

-- a row brought to a width
unfoldable pub fit : ℕ → Row → Row
fit n row = take n (row ++ nulls n)

-- the pairs that match; SQL leaves their order open: by left row, then by right row
unfoldable pub pairs : (Row → Row → Bool) → List Row → List Row → List Row
pairs m ls rs = each (λ l. map (λ r. l ++ r) (keep (m l) rs)) ls

-- and an unmatched left row once, with nulls for the b columns at the right; SQL leaves its place open: where its pairs would be
unfoldable pub pairs_padded : (Row → Row → Bool) → ℕ → List Row → List Row → List Row
pairs_padded m b ls rs = each (λ l. or_else (map (λ r. l ++ r) (keep (m l) rs)) (l ++ nulls b)) ls

-- the unmatched right rows, with nulls for the a columns at the left; SQL leaves their place open: last, in their own order
unfoldable pub lone : (Row → Row → Bool) → ℕ → List Row → List Row → List Row
lone m a ls rs = map (λ r. nulls a ++ r) (keep (λ r. not (any (λ l. m l r) ls)) rs)

-- SQL's outer joins; a semi or anti join is what SQL says by EXISTS or NOT EXISTS, with the rows of its side in their own order
unfoldable pub joined : JoinKind → (Row → Row → Bool) → ℕ → ℕ → List Row → List Row → List Row
joined Inner m a b ls rs = pairs m ls rs
joined Left m a b ls rs = pairs_padded m b ls rs
joined Right m a b ls rs = pairs m ls rs ++ lone m a ls rs
joined Full m a b ls rs = pairs_padded m b ls rs ++ lone m a ls rs
joined LeftSemi m a b ls rs = keep (λ l. any (m l) rs) ls
joined LeftAnti m a b ls rs = keep (λ l. not (any (m l) rs)) ls
joined RightSemi m a b ls rs = keep (λ r. any (λ l. m l r) ls) rs
joined RightAnti m a b ls rs = keep (λ r. not (any (λ l. m l r) ls)) rs

-- the function of a total, under aliases at most
unfoldable pub total_number : Expr → ℕ
total_number (literal v) = 0
total_number (reference f) = 0
total_number (alias e f) = total_number e
total_number (call n es) = n

-- the values that a total takes from a row
unfoldable pub taken_by : World → List Field → Row → Expr → List Value
taken_by w fs row (literal v) = []
taken_by w fs row (reference f) = []
taken_by w fs row (alias e f) = taken_by w fs row e
taken_by w fs row (call n es) = values_in w fs row es

-- what the grouping rule sees of a row
unfoldable pub keyed : World → List Field → List Expr → List Expr → Row → List Value × List (List Value)
keyed w fs gs ts row = (map (value_in w fs row) gs, map (taken_by w fs row) ts)

unfoldable pub key_values : World → List Field → List Key → Row → List Value
key_values w fs ks row = map (λ k. value_in w fs row k.by) ks

unfoldable mutual
  pub rows_of : Functions → World → Plan → List Row
  -- SQL leaves the order of a table's rows open: as the world has them
  rows_of fs w (table k q ns) = map (fit (length ns)) (w.contents k)
  rows_of fs w (projection es i) = map (λ row. map (value_in w (fields_of fs i) row) es) (rows_of fs w i)
  rows_of fs w (filter e i) = keep (holds w (fields_of fs i) e) (rows_of fs w i)
  -- SQL leaves the order of rows with equal keys open: as the arranging rule has it
  rows_of fs w (sort ks i) =
      gather (w.arrange (map (λ k. k.direction) ks) (map (key_values w (fields_of fs i) ks) (rows_of fs w i))) (rows_of fs w i)
  rows_of fs w (limit s c i) = take c (drop s (rows_of fs w i))
  -- SQL gives a row for each group and leaves their order open: as the grouping rule has it
  rows_of fs w (aggregate gs ts i) =
      map (fit (length (gs ++ ts))) (w.group (map total_number ts) (map (keyed w (fields_of fs i) gs ts) (rows_of fs w i)))
  rows_of fs w (join k cs l r) =
      joined k (matches w (fields_of fs l ++ fields_of fs r) cs) (length (fields_of fs l)) (length (fields_of fs r)) (rows_of fs w l) (rows_of fs w r)
  rows_of fs w (subquery_alias n i) = rows_of fs w i
  -- all rows, duplicates too; SQL leaves their order open: the inputs in turn
  rows_of fs w (union i is) = rows_of fs w i ++ further_rows fs w (length (fields_of fs i)) is

  -- the rows of a Union's further inputs, by position
  pub further_rows : Functions → World → ℕ → Plans → List Row
  further_rows fs w n done = []
  further_rows fs w n (also i is) = map (fit n) (rows_of fs w i) ++ further_rows fs w n is
