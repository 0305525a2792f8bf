-- Which Projection an input gets: none where nothing was taken out for it, a merge where it is a Projection, else a fresh one.
use Rattle.std.proofs.Common.{◌≡◌, ℕ, Bool, true, false, cond, not, ◌||◌, List, [], ◌∷◌, map, Ok, Err, Result, refl, sym, ap, ap₂, ◌∙◌, subst, arith}
use Rattle.entries.specs.declared.node.PlanId.{PlanId}
use Rattle.extracting.specs.Extractors.{entries_of, entry_of}
use Rattle.extracting.specs.declared.extractor.Extracted.{Extracted}
use Rattle.extracting.specs.declared.extractor.Extractor.{Extractor}
use Rattle.plan.specs.Fields.{any}
use Rattle.plan.specs.Functions.{Functions}
use Rattle.plan.specs.Model.{Model}
use Rattle.plan.specs.Plans.{Plan, fields_of}
use Rattle.plan.specs.Plans.Plan.{aggregate, filter, join, limit, projection, sort, subquery_alias, table, union}
use Rattle.plan.specs.Calls.{union_of}
use Rattle.plan.specs.Terms.{Expr, Field}
use Rattle.plan.specs.declared.fault.Fault.{Fault}
use Rattle.plan.specs.declared.fault.Stage.TheVariants.{Extraction, Merge}
use Rattle.rewriting.specs.Extracting.{Outcome, build_extraction_projection, build_extraction_projection_impl, built, extraction_space, freshly, made, merged, stage_of}
use Rattle.rewriting.specs.Outlay.{Tally, charged, list_space}
use Rattle.rewriting.specs.Routing.{Entry, Pair, Side as InputSide, pairs_of, same_side, unalias}
use Rattle.routing.specs.Sides.{side_of}
use Rattle.routing.specs.declared.owning.Side.{Side}
use Rattle.rows.specs.Lists.{keep}
use Rattle.stepping.specs.Lists.{at_side}
use Rattle.stepping.specs.Steps.{Start, Steps}
use Rattle.stored.specs.Stored.{build_plan_node}
use Rattle.stored.specs.declared.node.PlanNode.{PlanNode}
use Rattle.stored.specs.declared.node.PlanNode.TheVariants.{Table, Projection, Filter, Sort, Limit, Aggregate, Join, SubqueryAlias, Union}
use Rattle.stored.specs.declared.node.Run.{Run}
use Rattle.terms.specs.Views.{View}

-- a step that asks nothing of the numbers
pub steps-higher : (m m' : Model) (low : ℕ) (o : Tally → Outcome) (r : Result PlanId Fault) → Steps m 0 o r m' → Steps m low o r m'
steps-higher m m' low o (Ok r) a = λ u n s. a u n (record { spent = s.spent; least = omega arith; numbers = s.numbers })
steps-higher m m' low o (Err f) a = λ u n s. a u n (record { spent = s.spent; least = omega arith; numbers = s.numbers })

-- the entries of an input: none, or some
abbrev pub Some-pairs : List Pair → Type 0
Some-pairs ps = (d : Pair) × (ds : List Pair) × (ps ≡ d ∷ ds)

module _ (v : View) (s : Side) where
  abbrev Of : Extracted → Bool
  Of d = same_side (side_of d.side) (side_of s)

  abbrev Kept : List Extracted → List Entry
  Kept ds = keep (λ (e : Entry). same_side e.0 (side_of s)) (map (entry_of v) ds)

  abbrev Paired : List Entry → List Pair
  Paired es = map (λ (e : Entry). (unalias e.1, e.2)) es

  pub pairs-none : (ds : List Extracted) → any Of ds ≡ false → pairs_of (side_of s) (map (entry_of v) ds) ≡ []
  unfolding pairs_of keep
  pairs-none [] h = refl
  pairs-none (d ∷ ds) h = go (Of d) h (λ k. pairs-none ds k)
    where
      go : (b : Bool) → b || any Of ds ≡ false → (any Of ds ≡ false → Paired (Kept ds) ≡ []) → Paired (cond b (entry_of v d ∷ Kept ds) (Kept ds)) ≡ []
      go true h k = absurd (let z : ◌≡◌ {A = ℕ} 0 1 = cc in omega arith)
      go false h k = k h

  pub pairs-some : (ds : List Extracted) → any Of ds ≡ true → Some-pairs (pairs_of (side_of s) (map (entry_of v) ds))
  unfolding pairs_of keep
  pairs-some [] h = absurd (let z : ◌≡◌ {A = ℕ} 0 1 = cc in omega arith)
  pairs-some (d ∷ ds) h = go (Of d) h (λ k. pairs-some ds k)
    where
      go : (b : Bool) → b || any Of ds ≡ true → (any Of ds ≡ true → Some-pairs (Paired (Kept ds))) → Some-pairs (Paired (cond b (entry_of v d ∷ Kept ds) (Kept ds)))
      go true h k = ((unalias (entry_of v d).1, (entry_of v d).2), Paired (Kept ds), refl)
      go false h k = k h

-- without pairs the input is as it is; with some, a Projection is made
pub nothing-taken : (F : Functions) (p : Plan) (ps : List Pair) (cs : List Field) (n : Tally) → ps ≡ [] → build_extraction_projection F 0 p ps cs n ≡ built p n
unfolding build_extraction_projection
nothing-taken F p ps cs n e = ap (λ l. build_extraction_projection F 0 p l cs n) e

pub some-taken : (F : Functions) (p : Plan) (ps : List Pair) (cs : List Field) (n : Tally) → Some-pairs ps
    → build_extraction_projection F 0 p ps cs n ≡ made F (stage_of p) 0 (build_extraction_projection_impl F p ps cs) (charged (extraction_space F p ps cs) n)
unfolding build_extraction_projection
some-taken F p ps cs n h =
    subst (λ l. build_extraction_projection F 0 p l cs n ≡ made F (stage_of p) 0 (build_extraction_projection_impl F p l cs) (charged (extraction_space F p l cs) n)) (sym h.2) refl

-- no Projection
abbrev pub NoProjection : Plan → Type 0
NoProjection (table k q ns) = Unit {0}
NoProjection (projection es i) = ⊥
NoProjection (filter e i) = Unit {0}
NoProjection (sort ks i) = Unit {0}
NoProjection (limit s c i) = Unit {0}
NoProjection (aggregate gs ts i) = Unit {0}
NoProjection (join k es l r) = Unit {0}
NoProjection (subquery_alias n i) = Unit {0}
NoProjection (union i is) = Unit {0}

pub no-projection : (v : View) (fs : List Field) (ts : List Plan) (n : PlanNode) → ((i : PlanId) (l : Run) → n ≡ Projection i l → ⊥) → NoProjection (build_plan_node v fs ts n)
no-projection v fs ts (Table k q) h = tt
no-projection v fs ts (Projection i l) h = h i l refl
no-projection v fs ts (Filter i e) h = tt
no-projection v fs ts (Sort i l) h = tt
no-projection v fs ts (Limit i s c) h = tt
no-projection v fs ts (Aggregate i gs us) h = tt
no-projection v fs ts (Join k l r cs) h = tt
no-projection v fs ts (SubqueryAlias i n) h = tt
no-projection v fs ts (Union l) h = of-union _
  where
    of-union : (ps : List Plan) → NoProjection (union_of ps)
    of-union [] = tt
    of-union (p ∷ ps) = tt

module _ (F : Functions) (ps : List Pair) (cs : List Field) where
  pub fresh-tree : (p : Plan) → NoProjection p → build_extraction_projection_impl F p ps cs ≡ projection (freshly (fields_of F p) ps) p
  unfolding build_extraction_projection_impl
  fresh-tree (table k q ns) h = refl
  fresh-tree (projection es i) h = absurd h
  fresh-tree (filter e i) h = refl
  fresh-tree (sort ks i) h = refl
  fresh-tree (limit s c i) h = refl
  fresh-tree (aggregate gs ts i) h = refl
  fresh-tree (join k es l r) h = refl
  fresh-tree (subquery_alias n i) h = refl
  fresh-tree (union i is) h = refl

  fresh-made : (p : Plan) (n : Tally) → NoProjection p
      → made F (stage_of p) 0 (build_extraction_projection_impl F p ps cs) (charged (extraction_space F p ps cs) n)
      ≡ made F Extraction 0 (projection (freshly (fields_of F p) ps) p) (charged (list_space (freshly (fields_of F p) ps)) n)
  unfolding stage_of build_extraction_projection_impl extraction_space
  fresh-made (table k q ns) n h = refl
  fresh-made (projection es i) n h = absurd h
  fresh-made (filter e i) n h = refl
  fresh-made (sort ks i) n h = refl
  fresh-made (limit s c i) n h = refl
  fresh-made (aggregate gs ts i) n h = refl
  fresh-made (join k es l r) n h = refl
  fresh-made (subquery_alias m i) n h = refl
  fresh-made (union i is) n h = refl

  pub freshly-taken : (p : Plan) (n : Tally) → Some-pairs ps → NoProjection p
      → build_extraction_projection F 0 p ps cs n ≡ made F Extraction 0 (projection (freshly (fields_of F p) ps) p) (charged (list_space (freshly (fields_of F p) ps)) n)
  freshly-taken p n h k = some-taken F p ps cs n h ∙ fresh-made p n k

  -- a Projection over i with the list es
  pub merged-tree : (es : List Expr) (i : Plan) → build_extraction_projection_impl F (projection es i) ps cs ≡ projection (merged F i es ps cs) i
  unfolding build_extraction_projection_impl
  merged-tree es i = refl

  pub merged-taken : (es : List Expr) (i : Plan) (n : Tally) → Some-pairs ps
      → build_extraction_projection F 0 (projection es i) ps cs n ≡ made F Merge 0 (projection (merged F i es ps cs) i) (charged (extraction_space F (projection es i) ps cs) n)
  unfolding stage_of build_extraction_projection_impl
  merged-taken es i n h = some-taken F (projection es i) ps cs n h

pub not-yes : (b : Bool) → not b ≡ true → b ≡ false
not-yes true h = absurd (let z : ◌≡◌ {A = ℕ} 0 1 = cc in omega arith)
not-yes false h = refl
