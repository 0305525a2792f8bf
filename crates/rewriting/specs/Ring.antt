-- Push as four functions that call one another, the height below the Projection falling: what code is held to.
--     try_push_input F p      of a Projection, split_and_push_projection
--     split_and_push_projection F es p      the split, and push_extraction_pairs into p
--     push_extraction_pairs F p      a merge into a Projection, else try_push_into_inputs
--     try_push_into_inputs F p      an extraction projection over each input, by try_push_input, and the node rebuilt
--     placed_over F p      an extraction projection over p, pushed further
--     pairs_pushed F p      push_extraction_pairs, by the other three
--     height_of p      how many nodes stand on the longest way down from p, less one
--     RingHolds      push is these four
use Rattle.std.specs.Prelude.{◌≡◌, ℕ, suc, ◌≤◌, max, Bool, true, false, cond, List, map}
use Rattle.plan.specs.Terms.{Field, Expr}
use Rattle.plan.specs.Functions.{Functions}
use Rattle.plan.specs.Rendering.{field_of}
use Rattle.plan.specs.Plans.{Plan, Plans, fields_of}
use Rattle.plan.specs.Plans.Plan.{table, projection, filter, sort, limit, aggregate, join, subquery_alias, union}
use Rattle.plan.specs.Plans.Plans.{done, also}
use Rattle.plan.specs.declared.fault.Stage.TheVariants.{Merge}
use Rattle.rewriting.specs.Outlay.{Tally, charged}
use Rattle.rewriting.specs.Routing.{Pair}
use Rattle.rewriting.specs.Extracting.{Outcome, built, no_change, and_then, made, merged, build_extraction_projection_impl, extraction_space, stage_of}
use Rattle.rewriting.specs.Pushing.{Into, IntoAll, Place, anyway, work, works, split_and_push, or_keep, placed, not_tried, remap_pairs_and_columns, remapped, is_pure_extraction_projection, into_one, into_subquery_alias, into_join, into_projection, into_union, closed, push}

-- try_push_input
unfoldable pub try_push_input : Functions → Plan → ℕ → Tally → Outcome
try_push_input F (table k q ns) level n = no_change n
try_push_input F (projection es i) level n = (work F i).over es level n
try_push_input F (filter e i) level n = no_change n
try_push_input F (sort ks i) level n = no_change n
try_push_input F (limit s c i) level n = no_change n
try_push_input F (aggregate gs ts i) level n = no_change n
try_push_input F (join k cs l r) level n = no_change n
try_push_input F (subquery_alias s i) level n = no_change n
try_push_input F (union i is) level n = no_change n

-- push_extraction_pairs; only a Projection asks whether the list was wholly captured
unfoldable pub push_extraction_pairs : Functions → Plan → Into
push_extraction_pairs F (table k q ns) = anyway not_tried
push_extraction_pairs F (projection es i) = into_projection F es i (work F i).over
push_extraction_pairs F (filter e i) = anyway (into_one F (filter e) i (work F i).place)
push_extraction_pairs F (sort ks i) = anyway (into_one F (sort ks) i (work F i).place)
push_extraction_pairs F (limit s c i) = anyway (into_one F (limit s c) i (work F i).place)
push_extraction_pairs F (aggregate gs ts i) = anyway not_tried
push_extraction_pairs F (join k es l r) = anyway (into_join F k es l r (work F l).place (work F r).place)
push_extraction_pairs F (subquery_alias s i) = anyway (into_subquery_alias F s i (work F i).place)
push_extraction_pairs F (union i is) = anyway (into_union F i is (work F i).place (works F is))

-- split_and_push_projection
unfoldable pub split_and_push_projection : Functions → List Expr → Plan → ℕ → Tally → Outcome
split_and_push_projection F es p level n = split_and_push F p (push_extraction_pairs F p) es level n

unfoldable pub placed_over : Functions → Plan → Place
placed_over F p ps cs level n =
    and_then (made F (stage_of p) level (build_extraction_projection_impl F p ps cs) (charged (extraction_space F p ps cs) n)) (λ q m. placed F ps (try_push_input F q (suc level)) q m)

-- the further inputs of a Union, in turn
unfoldable pub placed_all : Functions → Plans → IntoAll
placed_all F done from ps cs level n k = k done n
placed_all F (also i is) from ps cs level n k =
    let t = remap_pairs_and_columns from (fields_of F i) ps cs in
    and_then (placed_over F i t.pairs t.columns level (remapped t n)) (λ r m. placed_all F is from ps cs level m (λ rs o. k (also r rs) o))

-- try_push_into_inputs; neither an Aggregate is tried, nor a Projection here
unfoldable pub try_push_into_inputs : Functions → Plan → Place
try_push_into_inputs F (table k q ns) = not_tried
try_push_into_inputs F (projection es i) = not_tried
try_push_into_inputs F (filter e i) = into_one F (filter e) i (placed_over F i)
try_push_into_inputs F (sort ks i) = into_one F (sort ks) i (placed_over F i)
try_push_into_inputs F (limit s c i) = into_one F (limit s c) i (placed_over F i)
try_push_into_inputs F (aggregate gs ts i) = not_tried
try_push_into_inputs F (join k es l r) = into_join F k es l r (placed_over F l) (placed_over F r)
try_push_into_inputs F (subquery_alias s i) = into_subquery_alias F s i (placed_over F i)
try_push_into_inputs F (union i is) = into_union F i is (placed_over F i) (placed_all F is)

-- push_extraction_pairs in the other three's words
unfoldable pub pairs_pushed : Functions → Plan → Into
pairs_pushed F (table k q ns) ps cs whole level n = try_push_into_inputs F (table k q ns) ps cs level n
pairs_pushed F (projection es i) ps cs false level n = try_push_into_inputs F (projection es i) ps cs level n
pairs_pushed F (projection es i) ps cs true level n =
    and_then (made F Merge level (projection (merged F i es ps cs) i) (charged (extraction_space F (projection es i) ps cs) n))
    (λ q m. cond (is_pure_extraction_projection (merged F i es ps cs)) (or_keep q (try_push_input F q (suc level) m)) (built q m))
pairs_pushed F (filter e i) ps cs whole level n = try_push_into_inputs F (filter e i) ps cs level n
pairs_pushed F (sort ks i) ps cs whole level n = try_push_into_inputs F (sort ks i) ps cs level n
pairs_pushed F (limit s c i) ps cs whole level n = try_push_into_inputs F (limit s c i) ps cs level n
pairs_pushed F (aggregate gs ts i) ps cs whole level n = try_push_into_inputs F (aggregate gs ts i) ps cs level n
pairs_pushed F (join k es l r) ps cs whole level n = try_push_into_inputs F (join k es l r) ps cs level n
pairs_pushed F (subquery_alias s i) ps cs whole level n = try_push_into_inputs F (subquery_alias s i) ps cs level n
pairs_pushed F (union i is) ps cs whole level n = try_push_into_inputs F (union i is) ps cs level n

unfoldable mutual
  pub height_of : Plan → ℕ
  height_of (table k q ns) = 0
  height_of (projection es i) = suc (height_of i)
  height_of (filter e i) = suc (height_of i)
  height_of (sort ks i) = suc (height_of i)
  height_of (limit s c i) = suc (height_of i)
  height_of (aggregate gs ts i) = suc (height_of i)
  height_of (join k cs l r) = suc (max (height_of l) (height_of r))
  height_of (subquery_alias s i) = suc (height_of i)
  height_of (union i is) = suc (max (height_of i) (heights_of is))

  pub heights_of : Plans → ℕ
  heights_of done = 0
  heights_of (also i is) = max (height_of i) (heights_of is)

pub record RingHolds : Type 0 where
  pub pushes : (F : Functions) (es : List Expr) (p : Plan) (n : Tally)
      → push F (projection es p) n ≡ and_then (try_push_input F (projection es p) 0 n) (λ r m. closed F (map (field_of F) es) r m)
  pub tries : (F : Functions) (es : List Expr) (p : Plan) (level : ℕ) (n : Tally) → try_push_input F (projection es p) level n ≡ split_and_push_projection F es p level n
  pub splits : (F : Functions) (es : List Expr) (p : Plan) (level : ℕ) (n : Tally) → split_and_push_projection F es p level n ≡ split_and_push F p (push_extraction_pairs F p) es level n
  pub pairs : (F : Functions) (p : Plan) (ps : List Pair) (cs : List Field) (whole : Bool) (level : ℕ) (n : Tally)
      → push_extraction_pairs F p ps cs whole level n ≡ pairs_pushed F p ps cs whole level n
  -- what is pushed over an input is no higher than one above it
  pub falls : (F : Functions) (p : Plan) (ps : List Pair) (cs : List Field) → height_of (build_extraction_projection_impl F p ps cs) ≤ suc (height_of p)
