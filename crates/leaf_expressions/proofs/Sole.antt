-- Extract of a node over one input: what the walk through its expressions finds for the input, and what each way out of it comes to.
--     list-onward, walk-both      a walk through a list only goes on; and through two lists, one after the other
--     plan-stays, fields-stay      nodes and their fields stay while expressions are made
--     FoundFor F p s g, found-later      `Found` apart from the tables, and in tables that have grown
--     walked t i es      the walk through the expressions es over the node i
--     found-walk, found-one      what it finds for the input
--     marked-lent      whether something is Marked, asked of the terms
--     renamed-same      fields that may have their names, where they are those of the input
--     finish t p i g b      the second half: the input with what was found, and the node b rebuilt over it with the fields of p
--     none-marked, none-new, stopped, refused-then, built-then      the ways out
use Rattle.std.proofs.Common.{◌≡◌, ℕ, ◌+◌, ◌<◌, ◌≤◌, Bool, true, false, List, [], ◌∷◌, ◌++◌, length, Some, None, Ok, Err, Option, Result, inl, inr, sym, refl, ap, ap₂, ◌∙◌, subst, arith}
use Rattle.std.specs.List.{AllByRecursion}
use Rattle.entries.specs.declared.node.ExprId.{ExprId}
use Rattle.entries.specs.declared.node.PlanId.{PlanId}
use Rattle.extracting.proofs.Rewritten.{Onward, walk-onward}
use Rattle.extracting.specs.Extractors.{extractor_of}
use Rattle.extracting.specs.Walking.{Grows, Numbered, Stopped}
use Rattle.extracting.specs.declared.extractor.Extractor.{Extractor}
use Rattle.plan.specs.Functions.{Functions}
use Rattle.plan.specs.Model.{Model, Node, Within, count_of, exprs_in, plan_in}
use Rattle.plan.specs.Plans.{Plan, fields_of}
use Rattle.plan.specs.Terms.Expr.{reference}
use Rattle.plan.specs.Terms.{Expr, Field}
use Rattle.plan.specs.declared.fault.Fault.{Fault}
use Rattle.recovering.specs.Renaming.{can_rename}
use Rattle.rewriting.proofs.Limits.{only-limited}
use Rattle.rewriting.proofs.Takings.{list-plain, pairs-plain, walks-sound}
use Rattle.rewriting.specs.Extracting.{Outcome, and_then, build_extraction_projection, build_extraction_projection_impl, rebuilt}
use Rattle.rewriting.specs.Generated.{next_number}
use Rattle.rewriting.specs.Limits.{Below, OnlyEight, Sound}
use Rattle.rewriting.specs.Outlay.{Tally, list_space}
use Rattle.rewriting.specs.Routing
use Rattle.rewriting.specs.Routing.{Side as InputSide, empty_extractor, find_sole_input, has_extractable_expr, needed_of, one, pairs_of, routing_extract, routing_extract_all, schema_columns}
use Rattle.rows.specs.Standing.{Good, Known}
use Rattle.routing.specs.Sides.{side_of}
use Rattle.routing.specs.declared.owning.Side.{Side}
use Rattle.routing.specs.declared.owning.Side.TheVariants.{First}
use Rattle.stepping.specs.Lists.{NoTotals}
use Rattle.stepping.specs.Steps.{AllGood, Steps}
use Rattle.stored.specs.Stored.{node_trees}
use Rattle.tables.proofs.Inputs.{tree-at}
use Rattle.tables.specs.Holding.{fields_at, model_of, plan_count, tree_in, view_in}
use Rattle.tables.specs.declared.tables.Tables.{Tables}
use Rattle.terms.specs.Views.{numbers_of, view_of}
use Rattle.terms.specs.declared.terms.Terms.{Terms}
use Rattle.leaf_expressions.proofs.Halves.{half-built, half-refused, nothing-marked, nothing-new, walk-stopped, whole}
use Rattle.leaf_expressions.proofs.Renamed.{can-rename-self}
use Rattle.leaf_expressions.proofs.Spending.{Spending, projection-spends, rebuilt-spends, then-spends}
use Rattle.leaf_expressions.specs.Comes.{Comes, extracted}
use Rattle.leaf_expressions.specs.Found.{Found, Renamed, Wider, over_one}

module _ (F : Functions) (own : Expr → Option InputSide) where
  pub list-onward : (es : List Expr) (g : Routing.Extractor) → Onward g (routing_extract_all F own es g).1
  unfolding routing_extract_all
  list-onward [] g = record { longer = omega arith; later = omega arith; new = λ h. h; full = λ h. h }
  list-onward (e ∷ es) g =
      let p = walk-onward F own e g in
      let q = list-onward es (routing_extract F own e g).1 in
      record { longer = omega (arith, p.longer, q.longer); later = omega (arith, p.later, q.later); new = λ h. q.new (p.new h); full = λ h. q.full (p.full h) }

  pub walk-both : (es ds : List Expr) (g : Routing.Extractor)
      → routing_extract_all F own (es ++ ds) g ≡ ((routing_extract_all F own es g).0 ++ (routing_extract_all F own ds (routing_extract_all F own es g).1).0, (routing_extract_all F own ds (routing_extract_all F own es g).1).1)
  unfolding routing_extract_all
  walk-both [] ds g = refl
  walk-both (e ∷ es) ds g = ap (λ (v : List Expr × Routing.Extractor). ((routing_extract F own e g).0 ∷ v.0, v.1)) (walk-both es ds (routing_extract F own e g).1)

module _ (t u : Tables) (grows : Grows (model_of t) (model_of u)) where
  pub plan-stays : (i : ℕ) → tree_in u i ≡ tree_in t i
  plan-stays i = ap (λ (ns : List Node). plan_in (node_trees ns) i) grows.plans

  pub fields-stay : (i : ℕ) → fields_at u i ≡ fields_at t i
  fields-stay i = ap₂ fields_of grows.functions (plan-stays i)

pub record FoundFor (F : Functions) (p : Plan) (s : InputSide) (g : Routing.Extractor) : Type 0 where
  pub only : OnlyEight F (build_extraction_projection_impl F p (pairs_of s g.entries) (needed_of s g.needed))
  pub known : AllByRecursion (λ d. Known (fields_of F p) d.0) (pairs_of s g.entries)
  pub plain : NoTotals F (pairs_of s g.entries)
  pub columns : AllByRecursion (λ c. Known (fields_of F p) (reference c)) (needed_of s g.needed)

pub found-later : (t u : Tables) (s : Side) (i : ℕ) (x : Extractor) (g : Routing.Extractor) → Grows (model_of t) (model_of u) → extractor_of (view_in u) x ≡ g → FoundFor (view_in t).functions (tree_in t i) (side_of s) g → Found u x s i
found-later t u s i x g grows is h =
    let a : FoundFor (view_in t).functions (tree_in t i) (side_of s) (extractor_of (view_in u) x) = subst (FoundFor (view_in t).functions (tree_in t i) (side_of s)) (sym is) h in
    let b : FoundFor (view_in t).functions (tree_in u i) (side_of s) (extractor_of (view_in u) x) = subst (λ p. FoundFor (view_in t).functions p (side_of s) (extractor_of (view_in u) x)) (sym (plan-stays t u grows i)) a in
    let c : FoundFor (view_in u).functions (tree_in u i) (side_of s) (extractor_of (view_in u) x) = subst (λ F. FoundFor F (tree_in u i) (side_of s) (extractor_of (view_in u) x)) (sym grows.functions) b in
    record { only = c.only; known = c.known; plain = c.plain; columns = c.columns }

abbrev pub walked : Tables → ℕ → List Expr → List Expr × Routing.Extractor
walked t i es = routing_extract_all (view_in t).functions (find_sole_input (schema_columns (fields_at t i))) es (empty_extractor (next_number (model_of t)))

pub walked-later : (t : Tables) (i : ℕ) (es : List Expr) → next_number (model_of t) ≤ (walked t i es).1.next
unfolding empty_extractor
walked-later t i es = (list-onward (view_in t).functions (find_sole_input (schema_columns (fields_at t i))) es (empty_extractor (next_number (model_of t)))).later

module _ (t : Tables) (i : ℕ) (good : AllGood (model_of t)) (lt : i < plan_count t) where
  good-here : Good (view_in t).functions (tree_in t i)
  good-here = subst (Good (view_in t).functions) (tree-at t i) (good i lt)

  below-here : Below (next_number (model_of t)) (fields_at t i)
  below-here = subst (λ p. Below (next_number (model_of t)) (fields_of (view_in t).functions p)) (tree-at t i) (walks-sound.below (model_of t) i lt)

  pub found-walk : (es : List Expr) → AllByRecursion (Known (fields_at t i)) es → (walked t i es).1.full ≡ false → FoundFor (view_in t).functions (tree_in t i) one (walked t i es).1
  unfolding empty_extractor
  found-walk es known full =
      let F = (view_in t).functions in
      let p = tree_in t i in
      let fs = fields_at t i in
      let n = next_number (model_of t) in
      let g = (walked t i es).1 in
      let taken = (walks-sound.sole F fs).all_walks es n (empty_extractor n) known (walks-sound.start fs [] n) in
      let sound : Sound F p (pairs_of one g.entries) (needed_of one g.needed) n g.next = walks-sound.sound F p one fs [] n g refl below-here full taken in
      record {
        only = only-limited F p (pairs_of one g.entries) (needed_of one g.needed) n g.next good-here sound;
        known = sound.pairs;
        columns = sound.columns;
        plain = pairs-plain F one g.entries (list-plain F (find_sole_input (schema_columns fs)) fs es (empty_extractor n) known tt);
      }

  pub found-one : (es : List Expr) (u : Tables) (x : Extractor) → AllByRecursion (Known (fields_at t i)) es → Grows (model_of t) (model_of u) → extractor_of (view_in u) x ≡ (walked t i es).1 → Found u x First i
  found-one es u x known grows is = found-later t u First i x (walked t i es).1 grows is (found-walk es known (sym (ap (λ (g : Routing.Extractor). g.full) is)))

-- whether something is Marked, as it was asked of the terms of the tables
pub marked-lent : (t : Tables) (s : Terms) (ids : List ExprId) (a b : Bool) → s ≡ t.terms → a ≡ has_extractable_expr (view_of s).functions (exprs_in (view_of s).trees (numbers_of ids)) → a ≡ b
    → has_extractable_expr (view_in t).functions (exprs_in (view_in t).trees (numbers_of ids)) ≡ b
marked-lent t s ids a b e h k = ap (λ (x : Terms). has_extractable_expr (view_of x).functions (exprs_in (view_of x).trees (numbers_of ids))) (sym e) ∙ sym h ∙ k

-- fields that are the input's, where the input has the same fields or more
pub renamed-same : (fs gs hs : List Field) → fs ≡ hs → Wider gs hs → Renamed fs gs
renamed-same fs gs hs e (inl h) = λ l. subst (λ (ks : List Field). can_rename fs ks ≡ true) (e ∙ sym h) (can-rename-self fs)
renamed-same fs gs hs e (inr h) = λ l. absurd (omega (arith, ap length e))

-- the second half, of any extractor
abbrev pub finish_with : Functions → Plan → Routing.Extractor → List Field → (Plan → Plan) → Tally → Outcome
finish_with F p g fs b k = and_then (build_extraction_projection F 0 p (pairs_of one g.entries) (needed_of one g.needed) k) (λ r m. rebuilt F 0 fs (b r) m)

module _ (t : Tables) (p i : ℕ) (g : Routing.Extractor) (b : Plan → Plan) where
  abbrev pub finish : Tally → Outcome
  finish = finish_with (view_in t).functions (tree_in t i) g (fields_at t p) b

  finish-spends : Spending finish
  finish-spends k =
      let F = (view_in t).functions in
      then-spends (build_extraction_projection F 0 (tree_in t i) (pairs_of one g.entries) (needed_of one g.needed)) (λ r m. rebuilt F 0 (fields_at t p) (b r) m)
      (projection-spends F 0 (tree_in t i) (pairs_of one g.entries) (needed_of one g.needed)) (λ r. rebuilt-spends F 0 (fields_at t p) (b r)) k

  -- from the tables after the walk it is the same
  finish-stays : (u : Tables) (x : Extractor) (c : Plan → Plan) → Grows (model_of t) (model_of u) → extractor_of (view_in u) x ≡ g → c ≡ b → over_one u x i (fields_at u p) c ≡ finish
  finish-stays u x c grows is same =
      ap (λ (F : Functions). finish_with F (tree_in u i) (extractor_of (view_in u) x) (fields_at u p) c) grows.functions
      ∙ ap₂ (λ (q : Plan) (h : Routing.Extractor). finish_with (view_in t).functions q h (fields_at u p) c) (plan-stays t u grows i) is
      ∙ ap₂ (λ (fs : List Field) (d : Plan → Plan). finish_with (view_in t).functions (tree_in t i) g fs d) (fields-stay t u grows p) same

  -- es are the expressions that are looked through, and ws what they come to
  module _ (es ws : List Expr) (is : extracted t p ≡ whole t (view_in t).functions es ws g finish) where
    back : (r : Result (Option PlanId) Fault) (m' : Model) → Comes (model_of t) (whole t (view_in t).functions es ws g finish) r m' → Comes (model_of t) (extracted t p) r m'
    back r m' h = subst (λ o. Comes (model_of t) o r m') (sym is) h

    pub none-marked : (m' : Model) → has_extractable_expr (view_in t).functions es ≡ false → Comes (model_of t) (extracted t p) (Ok None) m'
    none-marked m' h = back (Ok None) m' (nothing-marked t (view_in t).functions es ws g finish m' h)

    module _ (some : has_extractable_expr (view_in t).functions es ≡ true) where
      pub stopped : (f : Fault) (m' : Model) → Stopped t (list_space ws) g f → Comes (model_of t) (extracted t p) (Err f) m'
      stopped f m' h = back (Err f) m' (walk-stopped t (view_in t).functions es ws g finish some f m' finish-spends h)

      -- u are the tables after the walk, and x the extractor
      module _ (u : Tables) (x : Extractor) (extractor : extractor_of (view_in u) x ≡ g) where
        full : g.full ≡ false
        full = sym (ap (λ (h : Routing.Extractor). h.full) extractor)

        new : (b : _) → x.is_new ≡ b → g.new ≡ b
        new b h = sym (ap (λ (y : Routing.Extractor). y.new) extractor) ∙ h

        pub none-new : (m' : Model) → x.is_new ≡ false → Comes (model_of t) (extracted t p) (Ok None) m'
        none-new m' h = back (Ok None) m' (nothing-new t (view_in t).functions es ws g finish some m' full (new false h))

        module _ (h : x.is_new ≡ true) (later : next_number (model_of t) ≤ g.next) (grows : Grows (model_of t) (model_of u)) (spent : Within (model_of t).used (list_space ws) (model_of u).used) (numbers : Numbered (model_of t) g.next (model_of u)) (c : Plan → Plan) (same : c ≡ b) where
          low : x.next ≤ g.next
          low = omega (arith, ap (λ (y : Routing.Extractor). y.next) extractor)

          turned : (r : Result PlanId Fault) (m' : Model) → Steps (model_of u) x.next (over_one u x i (fields_at u p) c) r m' → Steps (model_of u) x.next finish r m'
          turned r m' s = subst (λ o. Steps (model_of u) x.next o r m') (finish-stays u x c grows extractor same) s

          pub built-then : (r : PlanId) (m' : Model) → Steps (model_of u) x.next (over_one u x i (fields_at u p) c) (Ok r) m' → (plan_count u ≤ r.0) × (r.0 + 1 ≡ count_of m') → Comes (model_of t) (extracted t p) (Ok (Some r)) m'
          built-then r m' s last =
              let here : count_of (model_of u) ≡ count_of (model_of t) = ap length grows.plans in
              back (Ok (Some r)) m' (half-built t (view_in t).functions es ws g finish some full (new true h) u x.next low later grows spent numbers r m' (turned (Ok r) m' s) (omega (arith, last.0, here)) last.1)

          pub refused-then : (f : Fault) (m' : Model) → Steps (model_of u) x.next (over_one u x i (fields_at u p) c) (Err f) m' → Comes (model_of t) (extracted t p) (Err f) m'
          refused-then f m' s = back (Err f) m' (half-refused t (view_in t).functions es ws g finish some full (new true h) u x.next low later grows spent numbers f m' (turned (Err f) m' s))
