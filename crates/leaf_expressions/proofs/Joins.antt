-- Extract of a Join: what the walk through its conditions leaves, and what is then built.
use Rattle.std.proofs.Common.{◌≡◌, ℕ, ◌+◌, ◌<◌, ◌≤◌, Bool, true, false, List, ◌++◌, map, length, get_or, Some, None, Ok, Err, Option, Result, inl, inr, sym, ap, ap₂, ◌∙◌, subst, append-nil, length-append, arith}
use Rattle.std.proofs.lemmas.Bool.{and_parts}
use Rattle.std.specs.List.{AllByRecursion}
use Rattle.table.specs.Contents.{part}
use Rattle.asking.proofs.NodeFacts.{exprs-length}
use Rattle.entries.specs.Entries.{expr_of}
use Rattle.entries.specs.declared.node.Entry.{Entry}
use Rattle.entries.specs.declared.node.ExprId.{ExprId}
use Rattle.entries.specs.declared.node.PlanId.{PlanId}
use Rattle.entries.specs.declared.node.Run.{Run}
use Rattle.extracting.proofs.Rewritten.{all-counted, all-onward}
use Rattle.extracting.specs.Extractors.{extractor_of}
use Rattle.extracting.specs.Walking.{Stopped, WalkedAll, walks_in}
use Rattle.extracting.specs.declared.extractor.Extractor.{Extractor as Given}
use Rattle.extracting.specs.declared.inputs.Inputs.TheVariants.{Two}
use Rattle.plan.specs.Calls.{all_below}
use Rattle.plan.specs.Functions.{Functions}
use Rattle.plan.specs.Model.{Model, count_of, exprs_in, no_node}
use Rattle.plan.specs.Plans.{Plan, fields_of, shown}
use Rattle.plan.specs.Plans.Plan.{join}
use Rattle.plan.specs.Terms.{Expr, Field}
use Rattle.plan.specs.declared.code.JoinKind.{JoinKind}
use Rattle.plan.specs.declared.code.JoinKind.TheVariants.{Full, Inner, Left, LeftAnti, LeftSemi, Right, RightAnti, RightSemi}
use Rattle.plan.specs.declared.fault.Fault.{Fault}
use Rattle.recovering.specs.Renaming.{can_rename}
use Rattle.rewriting.proofs.Limits.{only-limited}
use Rattle.rewriting.proofs.Made.{join-known}
use Rattle.rewriting.proofs.Takings.{list-plain, pairs-plain, walks-sound}
use Rattle.rewriting.specs.Extracting.{Outcome, and_then, build_extraction_projection, extract_from_plan, rebuilt}
use Rattle.rewriting.specs.Generated.{next_number}
use Rattle.rewriting.specs.Limits.{Below, Taken, fields_at as sides_fields}
use Rattle.rewriting.specs.Outlay.{Tally, list_space, start_at}
use Rattle.rewriting.specs.Routing.{Extractor, Side, empty_extractor, find_owning_input, has_extractable_expr, needed_of, one, pairs_of, routing_extract_all, schema_columns, two}
use Rattle.routing.specs.Sides.{side_of}
use Rattle.routing.specs.declared.owning.Side.{Side as Place}
use Rattle.rows.specs.Standing.{Good, Known}
use Rattle.stepping.specs.Steps.{AllGood, Steps}
use Rattle.stored.specs.Stored.{list_in, run_exprs, run_in}
use Rattle.swapping.proofs.Remade.{copy-long, exprs-copied, exprs-present}
use Rattle.tables.proofs.Inputs.{tree-at}
use Rattle.tables.proofs.Lent.{entries-lent}
use Rattle.tables.specs.Holding.{fields_at, model_of, plan_count, tree_in, view_in}
use Rattle.tables.specs.declared.tables.Tables.{Tables}
use Rattle.terms.specs.Views.{numbers_of, view_of}
use Rattle.terms.specs.declared.terms.Terms.{Terms}
use Rattle.leaf_expressions.specs.Comes.{Comes, extracted}
use Rattle.leaf_expressions.specs.Found.{Found, Renamed, Wider, over_two}
use Rattle.leaf_expressions.proofs.Halves.{half-built, half-refused, nothing-marked, nothing-new, walk-stopped, whole}
use Rattle.leaf_expressions.proofs.Later.{Fit, fit-same}
use Rattle.leaf_expressions.proofs.Renamed.{can-rename-self}
use Rattle.leaf_expressions.proofs.Spending.{Spending, projection-spends, rebuilt-spends, then-spends}

-- the fields that a Join shows: they are the same as before, or there are more of them
wider-both : (a b c d : List Field) → Wider a c → Wider b d → Wider (a ++ b) (c ++ d)
wider-both a b c d (inl p) (inl q) = inl (ap₂ (λ x y. x ++ y) p q)
wider-both a b c d (inl p) (inr q) = inr (omega (arith, length-append a b, length-append c d, ap length p))
wider-both a b c d (inr p) (inl q) = inr (omega (arith, length-append a b, length-append c d, ap length q))
wider-both a b c d (inr p) (inr q) = inr (omega (arith, length-append a b, length-append c d))

wider-shown : (k : JoinKind) (a b c d : List Field) → Wider a c → Wider b d → Wider (shown k a b) (shown k c d)
wider-shown Inner a b c d p q = wider-both a b c d p q
wider-shown Left a b c d p q = wider-both a b c d p q
wider-shown Right a b c d p q = wider-both a b c d p q
wider-shown Full a b c d p q = wider-both a b c d p q
wider-shown LeftSemi a b c d p q = rw (append-nil a, append-nil c) p
wider-shown LeftAnti a b c d p q = rw (append-nil a, append-nil c) p
wider-shown RightSemi a b c d p q = q
wider-shown RightAnti a b c d p q = q

wider-renamed : (fs gs : List Field) → Wider gs fs → Renamed fs gs
wider-renamed fs gs (inl p) = λ _. subst (λ hs. can_rename fs hs ≡ true) (sym p) (can-rename-self fs)
wider-renamed fs gs (inr lt) = λ many. absurd (omega (arith, many, lt))

pub shown-renamed : (k : JoinKind) (a b c d : List Field) → Wider a c → Wider b d → Renamed (shown k c d) (shown k a b)
shown-renamed k a b c d p q = wider-renamed (shown k c d) (shown k a b) (wider-shown k a b c d p q)

-- what is built of what was found in g: the two inputs, and over them the Join with the conditions ws
abbrev pub both_built : Functions → Plan → Plan → Extractor → List Field → JoinKind → List Expr → Tally → Outcome
both_built F x y g fs kind ws n =
    and_then (build_extraction_projection F 0 x (pairs_of one g.entries) (needed_of one g.needed) n)
    (λ a m. and_then (build_extraction_projection F 0 y (pairs_of two g.entries) (needed_of two g.needed) m) (λ b o. rebuilt F 0 fs (join kind ws a b) o))

pub both-spend : (F : Functions) (x y : Plan) (g : Extractor) (fs : List Field) (kind : JoinKind) (ws : List Expr) → Spending (both_built F x y g fs kind ws)
both-spend F x y g fs kind ws = λ n.
    then-spends (build_extraction_projection F 0 x (pairs_of one g.entries) (needed_of one g.needed))
    (λ a m. and_then (build_extraction_projection F 0 y (pairs_of two g.entries) (needed_of two g.needed) m) (λ b o. rebuilt F 0 fs (join kind ws a b) o))
    (projection-spends F 0 x (pairs_of one g.entries) (needed_of one g.needed))
    (λ a m. then-spends (build_extraction_projection F 0 y (pairs_of two g.entries) (needed_of two g.needed)) (λ b o. rebuilt F 0 fs (join kind ws a b) o) (projection-spends F 0 y (pairs_of two g.entries) (needed_of two g.needed)) (λ b o. rebuilt-spends F 0 fs (join kind ws a b) o) m) n

-- over the conditions es of the node p
module _ (t : Tables) (p l r : ℕ) (kind : JoinKind) (es : List Expr) where
  abbrev F : Functions
  F = (view_in t).functions

  abbrev m : Model
  m = model_of t

  abbrev fl : List Field
  fl = fields_at t l

  abbrev fr : List Field
  fr = fields_at t r

  abbrev own : Expr → Option Side
  own = find_owning_input (schema_columns fl) (schema_columns fr)

  abbrev pub walked : List Expr × Extractor
  walked = routing_extract_all F own es (empty_extractor (next_number m))

  abbrev joined : Plan
  joined = join kind es (tree_in t l) (tree_in t r)

  abbrev pub then_built : Tally → Outcome
  then_built = both_built F (tree_in t l) (tree_in t r) walked.1 (fields_of F joined) kind walked.0

  module _ (tree : tree_in t p ≡ joined) where
    pub outcome-is : extracted t p ≡ whole t F es walked.0 walked.1 then_built
    unfolding extract_from_plan start_at
    outcome-is = ap (λ q. extract_from_plan F q (start_at (next_number m))) tree

    module _ (node : p < plan_count t) (left : l < plan_count t) (right : r < plan_count t) (good : AllGood m) where
      good-at : (i : ℕ) → i < plan_count t → Good F (tree_in t i)
      good-at i lt = subst (Good F) (tree-at t i) (good i lt)

      below-at : (i : ℕ) → i < plan_count t → Below (next_number m) (fields_at t i)
      below-at i lt = subst (λ q. Below (next_number m) (fields_of F q)) (tree-at t i) (walks-sound.below m i lt)

      good-here : Good F joined
      good-here = subst (Good F) tree (good-at p node)

      known : AllByRecursion (Known (fl ++ fr)) es
      known = join-known kind es (tree_in t l) (tree_in t r) good-here.0

      taken : Taken fl fr (next_number m) walked.1
      taken = (walks-sound.owning F fl fr).all_walks es (next_number m) (empty_extractor (next_number m)) known (walks-sound.start fl fr (next_number m))

      fit-at : (s : Side) (i : ℕ) → i < plan_count t → sides_fields fl fr s ≡ fields_at t i → walked.1.full ≡ false → Fit F (tree_in t i) (pairs_of s walked.1.entries) (needed_of s walked.1.needed)
      fit-at s i lt e full =
          let sound = walks-sound.sound F (tree_in t i) s fl fr (next_number m) walked.1 e (below-at i lt) full taken in
          record {
            only = only-limited F (tree_in t i) (pairs_of s walked.1.entries) (needed_of s walked.1.needed) (next_number m) walked.1.next (good-at i lt) sound;
            known = sound.pairs;
            columns = sound.columns;
            plain = pairs-plain F s walked.1.entries (list-plain F own (fl ++ fr) es (empty_extractor (next_number m)) known (unfold empty_extractor in tt));
          }

      -- the walk went through
      module _ (u : Tables) (x : Given) (ids : List ExprId) (a : WalkedAll t walked ids u x) where
        pub not-full : walked.1.full ≡ false
        not-full = ap (λ (g : Extractor). g.full) (sym a.extractor)

        pub new-is : walked.1.new ≡ x.is_new
        new-is = ap (λ (g : Extractor). g.new) (sym a.extractor)

        pub next-is : walked.1.next ≡ x.next
        next-is = ap (λ (g : Extractor). g.next) (sym a.extractor)

        pub next-later : next_number m ≤ walked.1.next
        unfolding empty_extractor
        next-later = (all-onward F own es (empty_extractor (next_number m))).later

        trees-same : (i : ℕ) → tree_in u i ≡ tree_in t i
        trees-same i = sym (tree-at u i) ∙ ap (λ ns. (get_or ns i no_node).tree) a.grows.plans ∙ tree-at t i

        fields-same : (i : ℕ) → fields_at u i ≡ fields_at t i
        fields-same i = ap₂ fields_of a.grows.functions (trees-same i)

        pub found-at : (s : Place) (i : ℕ) → i < plan_count t → sides_fields fl fr (side_of s) ≡ fields_at t i → Found u x s i
        found-at s i lt e =
            let there = fit-same F (view_in u).functions (tree_in t i) (tree_in u i) _ _ _ _ (sym a.grows.functions) (sym (trees-same i)) (ap (λ (g : Extractor). pairs_of (side_of s) g.entries) (sym a.extractor)) (ap (λ (g : Extractor). needed_of (side_of s) g.needed) (sym a.extractor)) (fit-at (side_of s) i lt e not-full) in
            record { only = there.only; known = there.known; plain = there.plain; columns = there.columns }

        pub short : length ids ≡ length es
        short = sym (exprs-length (view_in u).trees ids) ∙ ap length a.trees ∙ all-counted F own es (empty_extractor (next_number m))

        pub may-rename : (y z : Plan) → Wider (fields_of (view_in u).functions y) (fields_at u l) → Wider (fields_of (view_in u).functions z) (fields_at u r)
            → Renamed (fields_at u p) (fields_of (view_in u).functions (join kind (exprs_in (view_in u).trees (numbers_of ids)) y z))
        may-rename y z h k =
            subst (λ fs. Renamed fs (fields_of (view_in u).functions (join kind (exprs_in (view_in u).trees (numbers_of ids)) y z)))
            (sym (fields-same p ∙ ap (fields_of F) tree ∙ ap₂ (shown kind) (sym (fields-same l)) (sym (fields-same r))))
            (shown-renamed kind (fields_of (view_in u).functions y) (fields_of (view_in u).functions z) (fields_at u l) (fields_at u r) h k)

        pub then-is : over_two u x l r (fields_at u p) (join kind (exprs_in (view_in u).trees (numbers_of ids))) ≡ then_built
        then-is =
            ap₂ (λ G q. both_built G q (tree_in u r) (extractor_of (view_in u) x) (fields_at u p) kind (exprs_in (view_in u).trees (numbers_of ids))) a.grows.functions (trees-same l)
            ∙ ap₂ (λ q g. both_built F (tree_in t l) q g (fields_at u p) kind (exprs_in (view_in u).trees (numbers_of ids))) (trees-same r) a.extractor
            ∙ ap₂ (λ fs ws. both_built F (tree_in t l) (tree_in t r) walked.1 fs kind ws) (fields-same p ∙ ap (fields_of F) tree) a.trees

        -- what was built in the second half, whole
        module _ (some : has_extractable_expr F es ≡ true) (new : x.is_new ≡ true) where
          second : (r' : Result PlanId Fault) (m' : Model) → Steps (model_of u) x.next (over_two u x l r (fields_at u p) (join kind (exprs_in (view_in u).trees (numbers_of ids)))) r' m' → Steps (model_of u) x.next then_built r' m'
          second r' m' s = subst (λ o. Steps (model_of u) x.next o r' m') then-is s

          pub built-comes : (q : PlanId) (m' : Model) → Steps (model_of u) x.next (over_two u x l r (fields_at u p) (join kind (exprs_in (view_in u).trees (numbers_of ids)))) (Ok q) m'
              → (plan_count u ≤ q.0) × (q.0 + 1 ≡ count_of m') → Comes m (extracted t p) (Ok (Some q)) m'
          built-comes q m' s last =
              subst (λ o. Comes m o (Ok (Some q)) m') (sym outcome-is)
              (half-built t F es walked.0 walked.1 then_built some not-full (new-is ∙ new) u x.next (omega (arith, next-is)) next-later a.grows a.spent a.numbers q m' (second (Ok q) m' s) (omega (arith, last.0, ap length a.grows.plans)) last.1)

          pub refused-comes : (f : Fault) (m' : Model) → Steps (model_of u) x.next (over_two u x l r (fields_at u p) (join kind (exprs_in (view_in u).trees (numbers_of ids)))) (Err f) m' → Comes m (extracted t p) (Err f) m'
          refused-comes f m' s =
              subst (λ o. Comes m o (Err f) m') (sym outcome-is)
              (half-refused t F es walked.0 walked.1 then_built some not-full (new-is ∙ new) u x.next (omega (arith, next-is)) next-later a.grows a.spent a.numbers f m' (second (Err f) m' s))

        pub nothing-comes : has_extractable_expr F es ≡ true → x.is_new ≡ false → (m' : Model) → Comes m (extracted t p) (Ok None) m'
        nothing-comes some old m' = subst (λ o. Comes m o (Ok None) m') (sym outcome-is) (nothing-new t F es walked.0 walked.1 then_built some m' not-full (new-is ∙ old))

    pub unmarked-comes : has_extractable_expr F es ≡ false → (m' : Model) → Comes m (extracted t p) (Ok None) m'
    unmarked-comes none m' = subst (λ o. Comes m o (Ok None) m') (sym outcome-is) (nothing-marked t F es walked.0 walked.1 then_built m' none)

    pub stopped-comes : has_extractable_expr F es ≡ true → (f : Fault) (m' : Model) → Stopped t (list_space walked.0) walked.1 f → Comes m (extracted t p) (Err f) m'
    stopped-comes some f m' h =
        subst (λ o. Comes m o (Err f) m') (sym outcome-is)
        (walk-stopped t F es walked.0 walked.1 then_built some f m' (both-spend F (tree_in t l) (tree_in t r) walked.1 (fields_of F joined) kind walked.0) h)

-- a list that was copied out of the tables
pub record Copied (t : Tables) (run : Run) (ids : List ExprId) : Type 0 where
  pub there : all_below (length (view_in t).trees) (numbers_of ids) ≡ true
  pub are : exprs_in (view_in t).trees (numbers_of ids) ≡ run_exprs (view_in t) run
  pub long : length ids ≡ run.count

pub list-copied : (t : Tables) (s : Terms) (run : Run) (es : List Entry) (xs ids : List ExprId) → s ≡ t.terms → es ≡ part (view_of s).entries run.first run.count → xs ≡ map expr_of es → ids ≡ xs → list_in (view_in t) run ≡ true
    → Copied t run ids
list-copied t s run es xs ids a b c d h =
    let v = view_in t in
    let e : ids ≡ map expr_of (part v.entries run.first run.count) = d ∙ c ∙ ap (map expr_of) (entries-lent t s a run es b) in
    record { there = exprs-present v run ids e h; are = exprs-copied v run ids e; long = copy-long v run expr_of ids e (and_parts (run_in v.entries run) _ h).0 }

-- what a question is asked of the copied list, and the walk through it
module _ (t : Tables) (run : Run) (ids : List ExprId) (k : Copied t run ids) where
  pub marked-of : (s : Terms) (b : Bool) → s ≡ t.terms → b ≡ has_extractable_expr (view_of s).functions (exprs_in (view_of s).trees (numbers_of ids)) → has_extractable_expr (view_in t).functions (run_exprs (view_in t) run) ≡ b
  marked-of s b e h = sym (h ∙ ap (λ z. has_extractable_expr (view_of z).functions (exprs_in (view_of z).trees (numbers_of ids))) e ∙ ap (has_extractable_expr (view_in t).functions) k.are)

  module _ (p : ℕ) (l r : PlanId) (kind : JoinKind) (x : Given) (n : ℕ) (start : extractor_of (view_in t) x ≡ empty_extractor n) (number : n ≡ next_number (model_of t)) where
    walk-is : walks_in t (Two l r) (exprs_in (view_in t).trees (numbers_of ids)) (extractor_of (view_in t) x) ≡ walked t p l.0 r.0 kind (run_exprs (view_in t) run)
    walk-is = ap₂ (routing_extract_all (view_in t).functions (find_owning_input (schema_columns (fields_at t l.0)) (schema_columns (fields_at t r.0)))) k.are (start ∙ ap empty_extractor number)

    pub walk-stops : (f : Fault) → Stopped t (list_space (walks_in t (Two l r) (exprs_in (view_in t).trees (numbers_of ids)) (extractor_of (view_in t) x)).0) (walks_in t (Two l r) (exprs_in (view_in t).trees (numbers_of ids)) (extractor_of (view_in t) x)).1 f
        → Stopped t (list_space (walked t p l.0 r.0 kind (run_exprs (view_in t) run)).0) (walked t p l.0 r.0 kind (run_exprs (view_in t) run)).1 f
    walk-stops f h = subst (λ (w : List Expr × Extractor). Stopped t (list_space w.0) w.1 f) walk-is h

    pub walk-went : (u : Tables) (y : Given) (made given : List ExprId) → given ≡ made → WalkedAll t (walks_in t (Two l r) (exprs_in (view_in t).trees (numbers_of ids)) (extractor_of (view_in t) x)) made u y
        → WalkedAll t (walked t p l.0 r.0 kind (run_exprs (view_in t) run)) given u y
    walk-went u y made given e h = subst (λ js. WalkedAll t (walked t p l.0 r.0 kind (run_exprs (view_in t) run)) js u y) (sym e) (subst (λ (w : List Expr × Extractor). WalkedAll t w made u y) walk-is h)
