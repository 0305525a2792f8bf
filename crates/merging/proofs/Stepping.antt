-- What a merge comes to, as a step.
use Rattle.std.proofs.Common.{◌≡◌, ℕ, false, cond, ◌&&◌, leb, List, [], ◌∷◌, map, length, Some, None, Ok, Err, Option, Result, inl, inr, sym, refl, ap, ap₂, ◌∙◌, subst, arith}
use Rattle.std.proofs.lemmas.Bool.{and_from, and_parts}
use Rattle.std.proofs.lemmas.List.{length-map}
use Rattle.plan.specs.Fields.{every}
use Rattle.plan.specs.Functions.{Functions}
use Rattle.plan.specs.Model.{Model, Space, exprs_in, plan_in, plus}
use Rattle.plan.specs.Plans.{Plan, fields_of, plan_size_of}
use Rattle.plan.specs.Plans.Plan.{projection}
use Rattle.plan.specs.Questions.{limited, short_name, small_tree}
use Rattle.plan.specs.Rendering.{field_of}
use Rattle.plan.specs.Swapping.{own_space}
use Rattle.plan.specs.Terms.{Expr, Field}
use Rattle.plan.specs.Terms.Expr.{reference}
use Rattle.plan.specs.declared.fault.Fault.{Fault}
use Rattle.plan.specs.declared.fault.Question.{Question}
use Rattle.plan.specs.declared.fault.Question.TheVariants.{Limited}
use Rattle.plan.specs.declared.fault.Stage.TheVariants.{Merge}
use Rattle.rewriting.specs.Extracting.{add_columns, add_pairs, aliased, build_projection_replace_map, extraction_space, made, made_if, merged, refused, replace_cols_by_name, resolved_in}
use Rattle.rewriting.specs.Limits.{OnlyEight}
use Rattle.rewriting.specs.Outlay.{Tally, charged, list_space}
use Rattle.rewriting.specs.Routing.{Pair}
use Rattle.routing.specs.declared.owning.Side
use Rattle.entries.specs.declared.node.ExprId.{ExprId}
use Rattle.entries.specs.declared.node.PlanId.{PlanId}
use Rattle.entries.specs.declared.node.Run.{Run}
use Rattle.extracting.proofs.Spaces.{AtMost, within_more}
use Rattle.extracting.specs.declared.extractor.Extractor.{Extractor}
use Rattle.stepping.proofs.Chain.{charged-err, charged-then, fits-no-more, made-spends}
use Rattle.stepping.specs.Lists.{at_side}
use Rattle.stepping.specs.Steps.{Steps}
use Rattle.tables.specs.Holding.{fields_at, model_of, tree_in, view_in}
use Rattle.stored.specs.Stored.{node_trees, run_exprs}
use Rattle.tables.specs.declared.tables.Tables.{Tables}
use Rattle.terms.specs.Views.{numbers_of}
use Rattle.merging.specs.Joining.{too_large, within_limits}
use Rattle.merging.specs.Merging.{AllMerged, Gathered, Stopped, columns_in, merged_list, merged_outcome, merged_tree, needed_at, pair_in, pairs_in}
use Rattle.merging.proofs.Joined.{off, apart}

-- the list by a map is the list as it is defined
module _ (F : Functions) (es : List Expr) where
  pairs-same : (ps : List Pair) (acc : List Expr) → add_pairs F es ps acc ≡ pairs_in (build_projection_replace_map F es) ps acc
  unfolding add_pairs resolved_in pairs_in
  pairs-same [] acc = refl
  pairs-same (p ∷ ps) acc = pairs-same ps _

  columns-same : (ins cs : List Field) (acc : List Expr) → add_columns F ins es cs acc ≡ columns_in F ins (build_projection_replace_map F es) cs acc
  unfolding add_columns resolved_in columns_in
  columns-same ins [] acc = refl
  columns-same ins (c ∷ cs) acc = columns-same ins cs _

  pub merged-is : (i : Plan) (ps : List Pair) (cs : List Field) → merged F i es ps cs ≡ merged_list F (fields_of F i) es ps cs
  unfolding merged
  merged-is i ps cs = columns-same (fields_of F i) cs (add_pairs F es ps es) ∙ ap (columns_in F (fields_of F i) (build_projection_replace_map F es) cs) (pairs-same ps es)

  -- the pairs are among what is counted
  resolved-pairs : (ps : List Pair) → map (λ d. resolved_in F es (aliased d)) ps ≡ map (pair_in (build_projection_replace_map F es)) ps
  unfolding resolved_in replace_cols_by_name
  resolved-pairs [] = refl
  resolved-pairs (p ∷ ps) = ap (λ l. pair_in (build_projection_replace_map F es) p ∷ l) (resolved-pairs ps)

  pub pairs-counted : (i : Plan) (ps : List Pair) (cs : List Field) → AtMost (list_space (map (pair_in (build_projection_replace_map F es)) ps)) (extraction_space F (projection es i) ps cs)
  unfolding extraction_space
  pairs-counted i ps cs =
      let a = list_space es in
      let b = list_space (map aliased ps) in
      let d = list_space (map (λ c. resolved_in F es (reference c)) cs) in
      subst (λ l. AtMost (list_space l) (plus (plus a b) (plus (list_space (map (λ d. resolved_in F es (aliased d)) ps)) d))) (resolved-pairs ps)
      (among a b (list_space (map (λ d. resolved_in F es (aliased d)) ps)) d)
    where
      among : (a b c d : Space) → AtMost c (plus (plus a b) (plus c d))
      among a b c d = record { exprs = omega arith; plans = omega arith; entries = omega arith; fields = omega arith; bytes = omega arith }

-- a list that is past the limits is refused by question 8
past-limits : (F : Functions) (W : List Expr) (i : Plan) → within_limits W ≡ false → limited F (projection W i) ≡ false
past-limits F W i h = off (limited F (projection W i)) (λ k.
    let n = leb (length (map (field_of F) W)) 64 in
    let p = and_parts (n && leb (plan_size_of (projection W i)) 64) (every small_tree W && every (short_name F) W) k in
    let q = and_parts n (leb (plan_size_of (projection W i)) 64) p.0 in
    let r = and_parts (every small_tree W) (every (short_name F) W) p.1 in
    apart (within_limits W) (and_from (leb (length W) 64) (every small_tree W) (ap (λ j. leb j 64) (sym (length-map W (field_of F))) ∙ q.0) r.0) h)

module _ (F : Functions) (W : List Expr) (i : Plan) (x : Space) (only : OnlyEight F (projection W i)) (past : within_limits W ≡ false) where
  past-made : (n : Tally) → (k : Tally) × (made F Merge 0 (projection W i) (charged x n) ≡ refused too_large k)
  unfolding made made_if
  past-made n = (charged (own_space F (projection W i)) (charged x n), ap (λ (q : Option Question). made_if q Merge 0 (projection W i) (charged (own_space F (projection W i)) (charged x n))) (only.answer ∙ ap (λ b. cond b None (Some Limited)) (past-limits F W i past)))

  past-steps : (m m' : Model) (low : ℕ) → Steps m low (λ n. made F Merge 0 (projection W i) (charged x n)) (Err too_large) m'
  past-steps m m' low = λ u n s. inl (past-made n)

module _ (t : Tables) (x : Extractor) (s : Side.Side) (under : PlanId) (list : Run) (ids : List ExprId) (es-is : exprs_in (view_in t).trees (numbers_of ids) ≡ run_exprs (view_in t) list) where
  abbrev F : Functions
  F = (view_in t).functions

  abbrev es : List Expr
  es = run_exprs (view_in t) list

  abbrev ps : List Pair
  ps = at_side (view_in t) x s

  abbrev cs : List Field
  cs = needed_at (view_in t) x s

  abbrev i : Plan
  i = tree_in t under.0

  abbrev W : List Expr
  W = merged F i es ps cs

  abbrev X : Space
  X = extraction_space F (projection es i) ps cs

  list-is : merged_list F (fields_at t under.0) es ps cs ≡ W
  list-is = sym (merged-is F es i ps cs)

  pub stopped : (only : OnlyEight F (merged_tree t x s under list)) (f : Fault) (ids' : List ExprId) (u : Tables) (m' : Model) → AllMerged t x s under.0 (exprs_in (view_in t).trees (numbers_of ids)) (Err f) ids' u → Steps (model_of t) x.next (merged_outcome t x s under list) (Err f) m'
  stopped only f ids' u m' a = go (subst (λ l. AllMerged t x s under.0 l (Err f) ids' u) es-is a)
    where
      go : Stopped t (list_space (map (pair_in (build_projection_replace_map F es)) ps)) (merged_list F (fields_at t under.0) es ps cs) f → Steps (model_of t) x.next (merged_outcome t x s under list) (Err f) m'
      go (inl h) =
          charged-err (model_of t) m' x.next X (made F Merge 0 (projection W i)) f (ap (λ (z : Fault). z.question) h.0)
          (fits-no-more (model_of t).used (list_space (map (pair_in (build_projection_replace_map F es)) ps)) X (pairs-counted F es i ps cs) h.1) (made-spends F Merge 0 (projection W i))
      go (inr h) = subst (λ e. Steps (model_of t) x.next (merged_outcome t x s under list) (Err e) m') (sym h.0) (past-steps F W i X only (sym (ap within_limits list-is) ∙ h.1) (model_of t) m' x.next)

  module _ (ids' : List ExprId) (u : Tables) (a : AllMerged t x s under.0 (exprs_in (view_in t).trees (numbers_of ids)) (Ok tt) ids' u) where
    g : Gathered t (list_space (map (pair_in (build_projection_replace_map F es)) ps)) x.next (merged_list F (fields_at t under.0) es ps cs) ids' u
    g = subst (λ l. AllMerged t x s under.0 l (Ok tt) ids' u) es-is a

    tree-is : projection (exprs_in (view_in u).trees (numbers_of ids')) (tree_in u under.0) ≡ projection W i
    tree-is = ap₂ projection (g.trees ∙ list-is) (ap (λ ns. plan_in (node_trees ns) under.0) g.grows.plans)

    pub stepped : (r : Result PlanId Fault) (m' : Model) → Steps (model_of u) 0 (made (view_in u).functions Merge 0 (projection (exprs_in (view_in u).trees (numbers_of ids')) (tree_in u under.0))) r m' → Steps (model_of t) x.next (merged_outcome t x s under list) r m'
    stepped r m' b =
        charged-then (model_of t) (model_of u) m' x.next 0 X (made F Merge 0 (projection W i)) (omega arith) r g.grows
        (within_more (model_of t).used (list_space (map (pair_in (build_projection_replace_map F es)) ps)) X (model_of u).used g.spent (pairs-counted F es i ps cs)) g.numbers
        (subst (λ (p : Plan). Steps (model_of u) 0 (made F Merge 0 p) r m') tree-is (subst (λ G. Steps (model_of u) 0 (made G Merge 0 (projection (exprs_in (view_in u).trees (numbers_of ids')) (tree_in u under.0))) r m') g.grows.functions b))
