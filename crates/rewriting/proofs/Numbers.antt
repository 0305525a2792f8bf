-- No step of extract or push gives a number back.
use Rattle.std.proofs.Common.{ℕ, suc, ◌≤◌, Bool, true, false, cond, List, [], ◌∷◌, Some, None, Option, arith}
use Rattle.plan.specs.Faults.{fault, first_no}
use Rattle.plan.specs.Functions.{Functions, is_marked, placement_of}
use Rattle.plan.specs.Names.{Name, prefixed}
use Rattle.plan.specs.Plans.{Key, Plan, Plans, fields_of}
use Rattle.plan.specs.Plans.Plan.{aggregate, filter, join, limit, projection, sort, subquery_alias, table, union}
use Rattle.plan.specs.Plans.Plans.{also, done}
use Rattle.plan.specs.Questions.{expressions_of, node_asked}
use Rattle.plan.specs.Terms.{Expr, Exprs, Field}
use Rattle.plan.specs.Terms.Expr.{alias, call, literal, reference}
use Rattle.plan.specs.Terms.Exprs.{more, none}
use Rattle.plan.specs.declared.code.JoinKind.{JoinKind}
use Rattle.plan.specs.declared.fault.Fault.{Fault}
use Rattle.plan.specs.declared.fault.Question.{Question}
use Rattle.plan.specs.declared.fault.Question.TheVariants.{Limited}
use Rattle.plan.specs.declared.fault.Stage.{Stage}
use Rattle.plan.specs.declared.fault.Stage.TheVariants.{Closing, Extraction, Merge, Rebuilt, Recovery}
use Rattle.rewriting.specs.Extracting.{Outcome, and_then, build_extraction_projection, build_extraction_projection_impl, build_recovery_projection, built, extraction_space, stage_of, extract_from_plan, made, made_if, no_change, rebuilt, refused, remade, when_extractable, when_new}
use Rattle.rewriting.specs.Fresh.{Later, NumbersStay}
use Rattle.plan.specs.Swapping.{own_space}
use Rattle.rewriting.specs.Outlay.{Tally, after_walk, charged, list_space}
use Rattle.rewriting.specs.Pushing.{ExtractionTarget, Into, IntoAll, Place, Split, Work, anyway, captured, closed, into_join, into_one, into_projection, into_subquery_alias, into_union, is_extracted, not_tried, or_in_place, or_keep, place_if, placed, push, push_split, rebuilt_over, recover_push, remap_pairs_and_columns, remapped, shows_aliases, split_all, split_and_push, split_one, united, walked, when_routed, work, worker, works}
use Rattle.rewriting.specs.Ring.{push_extraction_pairs, try_push_input}
use Rattle.rewriting.specs.Routing.{Extractor, Pair, Side, add_extracted, empty_extractor, entered, find_owning_input, find_sole_input, noted, one, pairs_of, routing_extract, routing_extract_all, routing_extract_keys, routing_extracts, has_extractable_expr, schema_columns, taken_if, under_alias, under_call}

if-later : (b : Bool) (n : Tally) (o q : Outcome) → Later n o → Later n q → Later n (cond b o q)
if-later true n o q h k = h
if-later false n o q h k = k

still : (n : Tally) → Later n (no_change n)
unfolding Later
still n = omega arith

still-built : (p : Plan) (n : Tally) → Later n (built p n)
unfolding Later
still-built p n = omega arith

later_trans : (n m : Tally) (o : Outcome) → n.next ≤ m.next → Later m o → Later n o
unfolding Later
later_trans n m o h k = omega arith

later-refused : (x : Fault) (n m : Tally) → n.next ≤ m.next → Later n (refused x m)
unfolding Later
later-refused x n m h = h

when-later : (b : Bool) (n : Tally) (o : Outcome) → Later n o → Later n (cond b o (no_change n))
when-later b n o h = if-later b n o (no_change n) h (still n)

or_later : (b : Bool) (n : Tally) (p : Plan) (o : Outcome) → Later n o → Later n (cond b (built p n) o)
or_later b n p o h = if-later b n (built p n) o (still-built p n) h

made-later : (F : Functions) (stage : Stage) (level : ℕ) (p : Plan) (n : Tally) → Later n (made F stage level p n)
unfolding Later made made_if charged
made-later F stage level p n = go (first_no (node_asked F p))
  where
    go : (o : Option Question) → Later n (made_if o stage level p (charged (own_space F p) n))
    go None = omega arith
    go (Some q) = omega arith

remade-later : (F : Functions) (stage : Stage) (level : ℕ) (p : Plan) (n : Tally) → Later n (remade F stage level p n)
unfolding remade charged
remade-later F stage level p n = later_trans n _ _ (omega arith) (made-later F stage level p (charged (list_space (expressions_of p)) n))

then-later : (n : Tally) (o : Outcome) (f : Plan → Tally → Outcome) → Later n o → ((p : Plan) (m : Tally) → Later m (f p m)) → Later n (and_then o f)
unfolding Later and_then
then-later n (built p m) f h k = let j = k p m in omega arith
then-later n (no_change m) f h k = h
then-later n (refused x m) f h k = h

keep-later : (n : Tally) (p : Plan) (o : Outcome) → Later n o → Later n (or_keep p o)
unfolding Later or_keep
keep-later n p (built q m) h = h
keep-later n p (no_change m) h = h
keep-later n p (refused x m) h = h

-- a walk
noted-later : (o : Option Side) (r : Field) (g : Extractor) → g.next ≤ (noted o r g).next
unfolding noted
noted-later None r g = omega arith
noted-later (Some s) r g = omega arith

added-later : (s : Side) (e : Expr) (g : Extractor) (x : Option Name) → g.next ≤ (add_extracted s e g x).1.next
unfolding add_extracted
added-later s e g (Some x) = omega arith
added-later s e g None = omega arith

taken-later : (b : Bool) (o : Option Side) (e : Expr) (g : Extractor) (w : Expr × Extractor) → g.next ≤ w.1.next → g.next ≤ (taken_if b o e g w).1.next
unfolding taken_if
taken-later false o e g w h = h
taken-later true None e g w h = h
taken-later true (Some s) e g w h = added-later s e g (entered e g.entries)

module _ (F : Functions) (own : Expr → Option Side) where
  mutual
    unfolding routing_extract under_alias under_call

    walk-later : (e : Expr) (g : Extractor) → g.next ≤ (routing_extract F own e g).1.next
    walk-later (literal v) g = omega arith
    walk-later (reference r) g = noted-later (own (reference r)) r g
    walk-later (alias e f) g = go (prefixed f.name) (walk-later e g)
      where
        go : (b : Bool) → g.next ≤ (routing_extract F own e g).1.next → g.next ≤ (cond b (alias e f, g) (under_alias f (routing_extract F own e g))).1.next
        go true h = omega arith
        go false h = h
    walk-later (call n es) g = taken-later (is_marked (placement_of F (call n es))) (own (call n es)) (call n es) g (under_call n (routing_extracts F own es g)) (walks-later es g)

    walks-later : (es : Exprs) (g : Extractor) → g.next ≤ (routing_extracts F own es g).1.next
    walks-later none g = omega arith
    walks-later (more e es) g = let a = walk-later e g in let b = walks-later es (routing_extract F own e g).1 in omega arith

  list-later : (es : List Expr) (g : Extractor) → g.next ≤ (routing_extract_all F own es g).1.next
  unfolding routing_extract_all
  list-later [] g = omega arith
  list-later (e ∷ es) g = let a = walk-later e g in let b = list-later es (routing_extract F own e g).1 in omega arith

  keys-later : (ks : List Key) (g : Extractor) → g.next ≤ (routing_extract_keys F own ks g).1.next
  unfolding routing_extract_keys
  keys-later [] g = omega arith
  keys-later (k ∷ ks) g = let a = walk-later k.by g in let b = keys-later ks (routing_extract F own k.by g).1 in omega arith

  split-one-later : (e : Expr) (g : Extractor) → g.next ≤ (split_one F own e g).1.next
  unfolding split_one walked captured
  split-one-later (literal v) g = walk-later (literal v) g
  split-one-later (reference r) g = omega arith
  split-one-later (alias e f) g = go (is_extracted f)
    where
      go : (b : Bool) → g.next ≤ (cond b (captured e f g) (walked F own (alias e f) g)).1.next
      go true = omega arith
      go false = walk-later (alias e f) g
  split-one-later (call n es) g = walk-later (call n es) g

  split-later : (es : List Expr) (g : Extractor) → g.next ≤ (split_all F own es g).store.next
  unfolding split_all
  split-later [] g = omega arith
  split-later (e ∷ es) g = let a = split-one-later e g in let b = split-later es (split_one F own e g).1 in omega arith

-- extraction and recovery projections
extraction-later : (F : Functions) (level : ℕ) (p : Plan) (ps : List Pair) (cs : List Field) (n : Tally) → Later n (build_extraction_projection F level p ps cs n)
unfolding build_extraction_projection charged
extraction-later F level p [] cs n = still-built p n
extraction-later F level p (d ∷ ds) cs n = later_trans n _ _ (omega arith) (made-later F (stage_of p) level (build_extraction_projection_impl F p (d ∷ ds) cs) (charged (extraction_space F p (d ∷ ds) cs) n))

recovery-later : (F : Functions) (level : ℕ) (old : List Field) (p : Plan) (n : Tally) → Later n (build_recovery_projection F level old p n)
unfolding build_recovery_projection
recovery-later F level old p n = or_later _ n p _ (remade-later F Recovery level _ n)

rebuilt-later : (F : Functions) (old : List Field) (p : Plan) (n : Tally) → Later n (rebuilt F 0 old p n)
unfolding rebuilt
rebuilt-later F old p n = then-later n _ _ (made-later F Rebuilt 0 p n) (λ q m. recovery-later F 0 old q m)

-- from n by a walk to t
new-later : (F : Functions) (es : List Expr) (g : Extractor) (n t : Tally) (o : Outcome) → n.next ≤ t.next → Later t o → Later n (when_extractable F es n (when_new g n t o))
unfolding when_extractable when_new
new-later F es g n t o h k =
    when-later (has_extractable_expr F es) n _ (if-later g.full n (refused (fault Limited Extraction 0) t) _ (later-refused (fault Limited Extraction 0) n t h) (when-later g.new n o (later_trans n t o h k)))

extracts-later : (F : Functions) (P : Plan) (n : Tally) → Later n (extract_from_plan F P n)
unfolding extract_from_plan empty_extractor after_walk
extracts-later F (table k q ns) n = still n
extracts-later F (projection es i) n = still n
extracts-later F (filter e i) n =
    let own = find_sole_input (schema_columns (fields_of F i)) in
    new-later F _ _ n _ _ (walk-later F own e (empty_extractor n.next)) (then-later _ _ _ (extraction-later F 0 i _ _ _) (λ r m. rebuilt-later F _ _ m))
extracts-later F (sort ks i) n =
    let own = find_sole_input (schema_columns (fields_of F i)) in
    new-later F _ _ n _ _ (keys-later F own ks (empty_extractor n.next)) (then-later _ _ _ (extraction-later F 0 i _ _ _) (λ r m. rebuilt-later F _ _ m))
extracts-later F (limit s c i) n = still n
extracts-later F (aggregate gs ts i) n =
    let own = find_sole_input (schema_columns (fields_of F i)) in
    let w = routing_extract_all F own gs (empty_extractor n.next) in
    let a = list-later F own gs (empty_extractor n.next) in
    let b = list-later F own ts w.1 in
    new-later F _ _ n _ _ (omega arith) (then-later _ _ _ (extraction-later F 0 i _ _ _) (λ r m. rebuilt-later F _ _ m))
extracts-later F (join k cs l r) n =
    let own = find_owning_input (schema_columns (fields_of F l)) (schema_columns (fields_of F r)) in
    new-later F _ _ n _ _ (list-later F own cs (empty_extractor n.next))
    (then-later _ _ _ (extraction-later F 0 l _ _ _) (λ x m. then-later _ _ _ (extraction-later F 0 r _ _ _) (λ y o. rebuilt-later F _ _ o)))
extracts-later F (subquery_alias s i) n = still n
extracts-later F (union i is) n = still n

-- a push
abbrev IntoLater : Into → Type 0
IntoLater into = (ps : List Pair) (cs : List Field) (whole : Bool) (level : ℕ) (n : Tally) → Later n (into ps cs whole level n)

abbrev PlaceLater : Place → Type 0
PlaceLater place = (ps : List Pair) (cs : List Field) (level : ℕ) (n : Tally) → Later n (place ps cs level n)

record WorkLater (w : Work) : Type 0 where
  over : (es : List Expr) (level : ℕ) (n : Tally) → Later n (w.over es level n)
  place : PlaceLater w.place

between : (n m : Tally) (o : Outcome) → Later n (no_change m) → Later m o → Later n o
unfolding Later
between n m o h k = omega arith

in-place-later : (F : Functions) (p : Plan) (ps : List Pair) (cs : List Field) (new : Bool) (level : ℕ) (n : Tally) (o : Outcome) → Later n o → Later n (or_in_place F p ps cs new level o)
unfolding or_in_place
in-place-later F p ps cs new level n (built q m) h = h
in-place-later F p ps cs new level n (no_change m) h = if-later new n _ (no_change m) (between n m _ h (extraction-later F level p ps cs m)) h
in-place-later F p ps cs new level n (refused x m) h = h

module _ (F : Functions) (p : Plan) (into : Into) (later : IntoLater into) where
  over-later : (es : List Expr) (level : ℕ) (n : Tally) → Later n (split_and_push F p into es level n)
  unfolding split_and_push push_split recover_push after_walk empty_extractor
  over-later es level n = when-later _ n _ (go (pairs_of one s.store.entries))
    where
      s : Split
      s = split_all F (find_sole_input (schema_columns (fields_of F p))) es (empty_extractor n.next)

      t : Tally
      t = after_walk s.back s.store.next n

      from : n.next ≤ s.store.next
      from = split-later F (find_sole_input (schema_columns (fields_of F p))) es (empty_extractor n.next)

      go : (ps : List Pair) → Later n (push_split F p into es s level n ps)
      go [] = still n
      go (d ∷ ds) =
          if-later s.store.full n (refused (fault Limited Extraction level) t) _ (later-refused _ n t from) (later_trans n t _ from (then-later t _ _ (in-place-later F p (d ∷ ds) _ s.store.new level t _ (later (d ∷ ds) _ s.whole level t))
          (λ q m. or_later _ m q _ (made-later F Recovery level _ m))))

  placed-later : (ps : List Pair) (over : Tally → Outcome) (q : Plan) (n : Tally) → Later n (over n) → Later n (placed F ps over q n)
  unfolding placed
  placed-later ps over q n h = when-later (shows_aliases F ps q) n _ (keep-later n q (over n) h)

  worker-later : WorkLater (worker F p into)
  unfolding worker charged
  worker-later = record {
    over = over-later;
    place = λ ps cs level n. then-later n _ _ (later_trans n (charged (extraction_space F p ps cs) n) _ (omega arith) (made-later F Extraction level _ _)) (λ q m. placed-later ps _ q m (over-later _ (suc level) m));
  }

rebuilt-over-later : (F : Functions) (level : ℕ) (ps : List Pair) (p : Plan) (n : Tally) → Later n (rebuilt_over F level ps p n)
unfolding rebuilt_over
rebuilt-over-later F level ps p n = then-later n _ _ (remade-later F Rebuilt level p n) (λ q m. when-later _ m (built q m) (still-built q m))

routed-later : (o : Option (ExtractionTarget × ExtractionTarget)) (n : Tally) (f : ExtractionTarget → ExtractionTarget → Outcome) → ((t u : ExtractionTarget) → Later n (f t u)) → Later n (when_routed o n f)
unfolding when_routed
routed-later None n f h = still n
routed-later (Some t) n f h = h t.0 t.1

one_later : (F : Functions) (node : Plan → Plan) (i : Plan) (place : Place) → PlaceLater place → PlaceLater (into_one F node i place)
unfolding into_one
one_later F node i place h ps cs level n = routed-later _ n _ (λ t u. then-later n _ _ (h _ _ level n) (λ r m. rebuilt-over-later F level ps _ m))

subquery-later : (F : Functions) (s : Name) (i : Plan) (place : Place) → PlaceLater place → PlaceLater (into_subquery_alias F s i place)
unfolding into_subquery_alias remapped charged
subquery-later F s i place h ps cs level n =
    let t = remap_pairs_and_columns (fields_of F (subquery_alias s i)) (fields_of F i) ps cs in
    later_trans n (remapped t n) _ (omega arith) (one_later F (subquery_alias s) i place h t.pairs t.columns level (remapped t n))

place-if-later : (place : Place) → PlaceLater place → (p : Plan) → PlaceLater (place_if place p)
unfolding place_if
place-if-later place h p [] cs level n = still-built p n
place-if-later place h p (d ∷ ds) cs level n = h (d ∷ ds) cs level n

join-later : (F : Functions) (k : JoinKind) (es : List Expr) (l r : Plan) (a b : Place) → PlaceLater a → PlaceLater b → PlaceLater (into_join F k es l r a b)
unfolding into_join
join-later F k es l r a b h j ps cs level n = routed-later _ n _ (λ t u. when-later _ n _
    (then-later n _ _ (place-if-later a h l _ _ level n) (λ x m. then-later m _ _ (place-if-later b j r _ _ level m) (λ y o. rebuilt-over-later F level ps _ o))))

project-later : (F : Functions) (es : List Expr) (i : Plan) (over : List Expr → ℕ → Tally → Outcome) → ((ds : List Expr) (level : ℕ) (n : Tally) → Later n (over ds level n)) → IntoLater (into_projection F es i over)
unfolding into_projection charged
project-later F es i over h ps cs false level n = still n
project-later F es i over h ps cs true level n =
    then-later n _ _ (later_trans n (charged (extraction_space F (projection es i) ps cs) n) _ (omega arith) (made-later F Merge level _ _))
    (λ q m. if-later _ m _ (built q m) (keep-later m q _ (h _ (suc level) m)) (still-built q m))

abbrev AllLater : IntoAll → Type 0
AllLater ws = (from : List Field) (ps : List Pair) (cs : List Field) (level : ℕ) (n : Tally) (k : Plans → Tally → Outcome) → ((rs : Plans) (m : Tally) → Later m (k rs m)) → Later n (ws from ps cs level n k)

union-later : (F : Functions) (i : Plan) (is : Plans) (place : Place) (ws : IntoAll) → PlaceLater place → AllLater ws → PlaceLater (into_union F i is place ws)
unfolding into_union united remapped charged
union-later F i is place ws h j ps cs level n =
    let t = remap_pairs_and_columns (fields_of F (union i is)) (fields_of F i) ps cs in
    when-later _ n _ (then-later n _ _ (later_trans n (remapped t n) _ (omega arith) (h t.pairs t.columns level (remapped t n))) (λ r m. j _ ps cs level m _ (λ rs o. when-later _ o _ (rebuilt-over-later F level ps _ o))))

not-later : PlaceLater not_tried
unfolding not_tried
not-later ps cs level n = still n

mutual
  unfolding work remapped charged

  work-later : (F : Functions) (P : Plan) → WorkLater (work F P)
  work-later F (table k q ns) = worker-later F (table k q ns) (anyway not_tried) (λ ps cs whole level n. not-later ps cs level n)
  work-later F (projection es i) =
      let w = work-later F i in
      let into = project-later F es i (work F i).over w.over in
      record {
        over = over-later F (projection es i) (into_projection F es i (work F i).over) into;
        place = λ ps cs level n. then-later n _ _ (later_trans n (charged (extraction_space F (projection es i) ps cs) n) _ (omega arith) (made-later F Merge level _ _))
            (λ q m. placed-later F (projection es i) (into_projection F es i (work F i).over) into ps _ q m (w.over _ (suc level) m));
      }
  work-later F (filter e i) = worker-later F (filter e i) _ (λ ps cs whole level n. one_later F (filter e) i (work F i).place (work-later F i).place ps cs level n)
  work-later F (sort ks i) = worker-later F (sort ks i) _ (λ ps cs whole level n. one_later F (sort ks) i (work F i).place (work-later F i).place ps cs level n)
  work-later F (limit s c i) = worker-later F (limit s c i) _ (λ ps cs whole level n. one_later F (limit s c) i (work F i).place (work-later F i).place ps cs level n)
  work-later F (aggregate gs ts i) = worker-later F (aggregate gs ts i) (anyway not_tried) (λ ps cs whole level n. not-later ps cs level n)
  work-later F (join k es l r) = worker-later F (join k es l r) _ (λ ps cs whole level n. join-later F k es l r (work F l).place (work F r).place (work-later F l).place (work-later F r).place ps cs level n)
  work-later F (subquery_alias s i) = worker-later F (subquery_alias s i) _ (λ ps cs whole level n. subquery-later F s i (work F i).place (work-later F i).place ps cs level n)
  work-later F (union i is) = worker-later F (union i is) _ (λ ps cs whole level n. union-later F i is (work F i).place (works F is) (work-later F i).place (works-later F is) ps cs level n)

  works-later : (F : Functions) (is : Plans) → AllLater (works F is)
  works-later F done from ps cs level n k h = h done n
  works-later F (also i is) from ps cs level n k h =
      let t = remap_pairs_and_columns from (fields_of F i) ps cs in
      then-later n _ _ (later_trans n (remapped t n) _ (omega arith) ((work-later F i).place t.pairs t.columns level (remapped t n))) (λ r m. works-later F is from ps cs level m _ (λ rs o. h (also r rs) o))

pushes-later : (F : Functions) (P : Plan) (n : Tally) → Later n (push F P n)
unfolding push closed
pushes-later F (table k q ns) n = still n
pushes-later F (projection es i) n = then-later n _ _ ((work-later F i).over es 0 n) (λ r m. or_later _ m r _ (remade-later F Closing 0 _ m))
pushes-later F (filter e i) n = still n
pushes-later F (sort ks i) n = still n
pushes-later F (limit s c i) n = still n
pushes-later F (aggregate gs ts i) n = still n
pushes-later F (join k cs l r) n = still n
pushes-later F (subquery_alias s i) n = still n
pushes-later F (union i is) n = still n

tries-later : (F : Functions) (P : Plan) (level : ℕ) (n : Tally) → Later n (try_push_input F P level n)
unfolding try_push_input
tries-later F (table k q ns) level n = still n
tries-later F (projection es i) level n = (work-later F i).over es level n
tries-later F (filter e i) level n = still n
tries-later F (sort ks i) level n = still n
tries-later F (limit s c i) level n = still n
tries-later F (aggregate gs ts i) level n = still n
tries-later F (join k cs l r) level n = still n
tries-later F (subquery_alias s i) level n = still n
tries-later F (union i is) level n = still n

pairs-later : (F : Functions) (P : Plan) → IntoLater (push_extraction_pairs F P)
unfolding push_extraction_pairs
pairs-later F (table k q ns) ps cs whole level n = not-later ps cs level n
pairs-later F (projection es i) ps cs whole level n = project-later F es i (work F i).over (work-later F i).over ps cs whole level n
pairs-later F (filter e i) ps cs whole level n = one_later F (filter e) i (work F i).place (work-later F i).place ps cs level n
pairs-later F (sort ks i) ps cs whole level n = one_later F (sort ks) i (work F i).place (work-later F i).place ps cs level n
pairs-later F (limit s c i) ps cs whole level n = one_later F (limit s c) i (work F i).place (work-later F i).place ps cs level n
pairs-later F (aggregate gs ts i) ps cs whole level n = not-later ps cs level n
pairs-later F (join k es l r) ps cs whole level n = join-later F k es l r (work F l).place (work F r).place (work-later F l).place (work-later F r).place ps cs level n
pairs-later F (subquery_alias s i) ps cs whole level n = subquery-later F s i (work F i).place (work-later F i).place ps cs level n
pairs-later F (union i is) ps cs whole level n = union-later F i is (work F i).place (works F is) (work-later F i).place (works-later F is) ps cs level n

pub numbers_stay : NumbersStay
numbers_stay = record { extracts = extracts-later; pushes = pushes-later; tries = tries-later; pairs = pairs-later }
