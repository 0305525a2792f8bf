-- Push is four functions that call one another.
use Rattle.std.proofs.Common.{◌≡◌, ℕ, suc, ◌≤◌, Bool, true, false, List, map, Some, None, Option, refl, ap, ◌∙◌, arith}
use Rattle.plan.specs.Faults.{first_no}
use Rattle.plan.specs.Functions.{Functions}
use Rattle.plan.specs.Plans.{Plan, Plans, fields_of}
use Rattle.plan.specs.Plans.Plan.{aggregate, filter, join, limit, projection, sort, subquery_alias, table, union}
use Rattle.plan.specs.Plans.Plans.{also, done}
use Rattle.plan.specs.Questions.{node_asked}
use Rattle.plan.specs.Rendering.{field_of}
use Rattle.plan.specs.Terms.{Expr, Field}
use Rattle.plan.specs.declared.fault.Question.{Question}
use Rattle.plan.specs.declared.fault.Stage.{Stage}
use Rattle.plan.specs.declared.fault.Stage.TheVariants.{Extraction, Merge}
use Rattle.rewriting.specs.Extracting.{Outcome, and_then, build_extraction_projection_impl, built, made, made_if, no_change, refused, stage_of}
use Rattle.plan.specs.Swapping.{own_space}
use Rattle.rewriting.specs.Outlay.{Tally, charged}
use Rattle.rewriting.specs.Pushing.{Place, closed, into_join, into_one, into_projection, into_subquery_alias, into_union, not_tried, push, remap_columns, remap_pairs, split_and_push, work, worker, works}
use Rattle.rewriting.specs.Ring.{RingHolds, height_of, pairs_pushed, placed_all, placed_over, push_extraction_pairs, split_and_push_projection, try_push_input, try_push_into_inputs}
use Rattle.rewriting.specs.Routing.{Pair}

-- what is made is what was to be made
made_then : (F : Functions) (stage : Stage) (level : ℕ) (p : Plan) (n : Tally) (f g : Plan → Tally → Outcome) → ((m : Tally) → f p m ≡ g p m)
    → and_then (made F stage level p n) f ≡ and_then (made F stage level p n) g
unfolding made made_if and_then
made_then F stage level p n f g e = go (first_no (node_asked F p))
  where
    go : (o : Option Question) → and_then (made_if o stage level p (charged (own_space F p) n)) f ≡ and_then (made_if o stage level p (charged (own_space F p) n)) g
    go None = e _
    go (Some q) = refl

then-on : (o : Outcome) (f g : Plan → Tally → Outcome) → ((p : Plan) (m : Tally) → f p m ≡ g p m) → and_then o f ≡ and_then o g
unfolding and_then
then-on (built p n) f g e = e p n
then-on (no_change n) f g e = refl
then-on (refused x n) f g e = refl

tries : (F : Functions) (es : List Expr) (p : Plan) (level : ℕ) (n : Tally) → try_push_input F (projection es p) level n ≡ split_and_push_projection F es p level n
unfolding try_push_input split_and_push_projection work worker push_extraction_pairs
tries F es (table k q ns) level n = refl
tries F es (projection ds i) level n = refl
tries F es (filter e i) level n = refl
tries F es (sort ks i) level n = refl
tries F es (limit s c i) level n = refl
tries F es (aggregate gs ts i) level n = refl
tries F es (join k cs l r) level n = refl
tries F es (subquery_alias s i) level n = refl
tries F es (union i is) level n = refl

-- what is placed over an input
place-over : (F : Functions) (p : Plan) (ps : List Pair) (cs : List Field) (level : ℕ) (n : Tally) → (work F p).place ps cs level n ≡ placed_over F p ps cs level n
unfolding placed_over work worker build_extraction_projection_impl stage_of try_push_input
place-over F (table k q ns) ps cs level n = made_then F Extraction level _ _ _ _ (λ m. refl)
place-over F (projection ds i) ps cs level n = made_then F Merge level _ _ _ _ (λ m. refl)
place-over F (filter e i) ps cs level n = made_then F Extraction level _ _ _ _ (λ m. refl)
place-over F (sort ks i) ps cs level n = made_then F Extraction level _ _ _ _ (λ m. refl)
place-over F (limit s c i) ps cs level n = made_then F Extraction level _ _ _ _ (λ m. refl)
place-over F (aggregate gs ts i) ps cs level n = made_then F Extraction level _ _ _ _ (λ m. refl)
place-over F (join k es l r) ps cs level n = made_then F Extraction level _ _ _ _ (λ m. refl)
place-over F (subquery_alias s i) ps cs level n = made_then F Extraction level _ _ _ _ (λ m. refl)
place-over F (union i is) ps cs level n = made_then F Extraction level _ _ _ _ (λ m. refl)

places : (F : Functions) (p : Plan) → (work F p).place ≡ placed_over F p
places F p = λ j ps cs level n. place-over F p ps cs level n j

place-all : (F : Functions) (is : Plans) (from : List Field) (ps : List Pair) (cs : List Field) (level : ℕ) (n : Tally) (k : Plans → Tally → Outcome)
    → works F is from ps cs level n k ≡ placed_all F is from ps cs level n k
unfolding works placed_all
place-all F done from ps cs level n k = refl
place-all F (also i is) from ps cs level n k =
    ap (λ (o : Outcome). and_then o (λ r m. works F is from ps cs level m (λ rs o. k (also r rs) o)))
    (place-over F i (remap_pairs from (fields_of F i) ps) (remap_columns from (fields_of F i) cs) level _)
    ∙ then-on (placed_over F i (remap_pairs from (fields_of F i) ps) (remap_columns from (fields_of F i) cs) level _) _ _
    (λ r m. place-all F is from ps cs level m (λ rs o. k (also r rs) o))

all-places : (F : Functions) (is : Plans) → works F is ≡ placed_all F is
all-places F is = λ j from ps cs level n k. place-all F is from ps cs level n k j

pairs-pushed : (F : Functions) (p : Plan) (ps : List Pair) (cs : List Field) (whole : Bool) (level : ℕ) (n : Tally)
    → push_extraction_pairs F p ps cs whole level n ≡ pairs_pushed F p ps cs whole level n
unfolding push_extraction_pairs pairs_pushed try_push_into_inputs not_tried into_projection try_push_input
pairs-pushed F (table k q ns) ps cs whole level n = refl
pairs-pushed F (projection es i) ps cs false level n = refl
pairs-pushed F (projection es i) ps cs true level n = made_then F Merge level _ _ _ _ (λ m. refl)
pairs-pushed F (filter e i) ps cs whole level n = ap (λ (f : Place). into_one F (filter e) i f ps cs level n) (places F i)
pairs-pushed F (sort ks i) ps cs whole level n = ap (λ (f : Place). into_one F (sort ks) i f ps cs level n) (places F i)
pairs-pushed F (limit s c i) ps cs whole level n = ap (λ (f : Place). into_one F (limit s c) i f ps cs level n) (places F i)
pairs-pushed F (aggregate gs ts i) ps cs whole level n = refl
pairs-pushed F (join k es l r) ps cs whole level n = λ j. into_join F k es l r (places F l j) (places F r j) ps cs level n
pairs-pushed F (subquery_alias s i) ps cs whole level n = ap (λ (f : Place). into_subquery_alias F s i f ps cs level n) (places F i)
pairs-pushed F (union i is) ps cs whole level n = λ j. into_union F i is (places F i j) (all-places F is j) ps cs level n

falls : (F : Functions) (p : Plan) (ps : List Pair) (cs : List Field) → height_of (build_extraction_projection_impl F p ps cs) ≤ suc (height_of p)
unfolding build_extraction_projection_impl height_of
falls F (table k q ns) ps cs = omega arith
falls F (projection es i) ps cs = omega arith
falls F (filter e i) ps cs = omega arith
falls F (sort ks i) ps cs = omega arith
falls F (limit s c i) ps cs = omega arith
falls F (aggregate gs ts i) ps cs = omega arith
falls F (join k es l r) ps cs = omega arith
falls F (subquery_alias s i) ps cs = omega arith
falls F (union i is) ps cs = omega arith

pushes : (F : Functions) (es : List Expr) (p : Plan) (n : Tally)
    → push F (projection es p) n ≡ and_then (try_push_input F (projection es p) 0 n) (λ r m. closed F (map (field_of F) es) r m)
unfolding push try_push_input
pushes F es p n = refl

splits : (F : Functions) (es : List Expr) (p : Plan) (level : ℕ) (n : Tally) → split_and_push_projection F es p level n ≡ split_and_push F p (push_extraction_pairs F p) es level n
unfolding split_and_push_projection
splits F es p level n = refl

pub ring-holds : RingHolds
ring-holds = record { pushes = pushes; tries = tries; splits = splits; pairs = pairs-pushed; falls = falls }
