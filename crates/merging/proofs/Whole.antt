-- Pairs and columns together, over the Projection that they are merged into.
use Rattle.std.proofs.Common.{◌≡◌, ℕ, true, ◌||◌, List, [], ◌∷◌, map, length, Ok, Err, Result, inl, inr, sym, refl, ap, ap₂, ◌∙◌, subst, arith}
use Rattle.std.proofs.lemmas.List.{length-map}
use Rattle.plan.specs.Calls.{all_below}
use Rattle.plan.specs.Fields.{any, every}
use Rattle.plan.specs.Functions.{Functions, is_total}
use Rattle.plan.specs.Model.{Space, expr_in, exprs_in, plan_in}
use Rattle.plan.specs.Plans.{fields_of}
use Rattle.plan.specs.Rendering.{field_of}
use Rattle.plan.specs.Terms.{Expr}
use Rattle.plan.specs.Terms.Expr.{alias, call, literal, reference}
use Rattle.plan.specs.declared.fault.Fault.{Fault}
use Rattle.rewriting.specs.Extracting
use Rattle.rewriting.specs.Extracting.{build_projection_replace_map}
use Rattle.rewriting.specs.Outlay.{list_space}
use Rattle.rewriting.specs.Routing
use Rattle.rewriting.specs.Routing.{Pair, needed_of, unalias}
use Rattle.routing.specs.Sides.{side_of}
use Rattle.routing.specs.declared.owning.Side
use Rattle.entries.specs.Spans.{stored_field, stored_in}
use Rattle.entries.specs.declared.node.ExprId.{ExprId}
use Rattle.stepping.specs.Lists.{at_side}
use Rattle.tables.specs.Holding.{fields_at, view_in}
use Rattle.stored.specs.Stored.{node_trees}
use Rattle.tables.specs.declared.tables.Tables.{Tables}
use Rattle.terms.specs.Views.{View, numbers_of}
use Rattle.extracting.proofs.Growing.{extractor-stays}
use Rattle.extracting.specs.Extractors.{Inside}
use Rattle.extracting.specs.declared.extractor.Extractor.{Extractor}
use Rattle.merging.specs.Joining.{WithinBy}
use Rattle.merging.specs.Merging.{AllKnown, AllMerged, Gathered, GatheredBy, PairsMerged, Stopped, columns_in, merged_list, needed_at, pair_in, pairs_in}
use Rattle.merging.specs.Replacing.{MapIn, map_of}
use Rattle.merging.specs.declared.replacing.ReplaceMap.{ReplaceMap}
use Rattle.merging.proofs.Following.{map-inside, map-stays}
use Rattle.merging.proofs.Joined.{columns-past}

-- a total is one less an alias
unalias-total : (F : Functions) (e : Expr) → is_total F (unalias e) ≡ is_total F e
unfolding unalias
unalias-total F (literal v) = refl
unalias-total F (reference r) = refl
unalias-total F (alias e f) = refl
unalias-total F (call n es) = refl

pub unalias-totals : (F : Functions) (es : List Expr) → any (is_total F) (map unalias es) ≡ any (is_total F) es
unalias-totals F [] = refl
unalias-totals F (e ∷ es) = ap₂ (λ b c. b || c) (unalias-total F e) (unalias-totals F es)

-- the map of a Projection of the expressions es
module _ (v : View) (m : ReplaceMap) (es : List Expr) (fields : map (stored_field v.bytes) m.fields.now ≡ map (field_of v.functions) es) (behind : exprs_in v.trees (numbers_of m.behind.now) ≡ map unalias es) where
  pub map-is : map_of v m ≡ build_projection_replace_map v.functions es
  map-is = ap₂ (λ fs ds. (fs, ds)) fields behind

  pub map-in : every (stored_in v.bytes) m.fields.now ≡ true → all_below (length v.trees) (numbers_of m.behind.now) ≡ true → MapIn v m
  map-in stored present = record {
    stored = stored;
    present = present;
    counted =
        omega (arith, ap length fields, ap length behind, length-map m.fields.now (stored_field v.bytes), length-map es (field_of v.functions), length-map es unalias, length-map (numbers_of m.behind.now) (expr_in v.trees), length-map m.behind.now (λ d. d.0));
  }

module _ (t : Tables) (x : Extractor) (s : Side.Side) (under : ℕ) (m : ReplaceMap) (list : List ExprId) (map-here : map_of (view_in t) m ≡ build_projection_replace_map (view_in t).functions (exprs_in (view_in t).trees (numbers_of list))) where
  abbrev F : Functions
  F = (view_in t).functions

  abbrev es : List Expr
  es = exprs_in (view_in t).trees (numbers_of list)

  abbrev M : Extracting.ReplaceMap
  M = build_projection_replace_map F es

  abbrev ps : List Pair
  ps = at_side (view_in t) x s

  abbrev o : Space
  o = list_space (map (pair_in M) ps)

  pub pairs-here : (r : Result (Unit {0}) Fault) (ids : List ExprId) (u : Tables) → PairsMerged t m ps x.next list r ids u → GatheredBy t o x.next (pairs_in M ps es) r ids u
  pairs-here r ids u a = subst (λ q. GatheredBy t (list_space (map (pair_in q) ps)) x.next (pairs_in q ps es) r ids u) map-here a

  pub pairs-refused : (d : Fault) (ids : List ExprId) (u : Tables) → PairsMerged t m ps x.next list (Err d) ids u → AllMerged t x s under es (Err d) ids u
  pairs-refused d ids u a = go (pairs-here (Err d) ids u a)
    where
      go : Stopped t o (pairs_in M ps es) d → Stopped t o (merged_list F (fields_at t under) es ps (needed_at (view_in t) x s)) d
      go (inl h) = inl h
      go (inr h) = inr (h.0, columns-past F (fields_at t under) M (needed_at (view_in t) x s) (pairs_in M ps es) h.1)

  module _ (inside : MapIn (view_in t) m) (has : Inside (view_in t) x) (ids : List ExprId) (u : Tables) (a : PairsMerged t m ps x.next list (Ok tt) ids u) where
    g : Gathered t o x.next (pairs_in M ps es) ids u
    g = pairs-here (Ok tt) ids u a

    pub inside-then : MapIn (view_in u) m
    inside-then = map-inside t u g.grows m inside

    pub has-then : Inside (view_in u) x
    has-then = (extractor-stays t u g.grows x has).1

    needed-same : needed_at (view_in u) x s ≡ needed_at (view_in t) x s
    needed-same = ap (λ (q : Routing.Extractor). needed_of (side_of s) q.needed) (extractor-stays t u g.grows x has).0

    map-then : map_of (view_in u) m ≡ M
    map-then = map-stays t u g.grows m inside ∙ map-here

    pub known-then : AllKnown (map (field_of F) es) (needed_at (view_in t) x s) → AllKnown (map_of (view_in u) m).0 (needed_at (view_in u) x s)
    known-then k = subst (λ cs. AllKnown (map_of (view_in u) m).0 cs) (sym needed-same) (subst (λ (q : Extracting.ReplaceMap). AllKnown q.0 (needed_at (view_in t) x s)) (sym map-then) k)

    fields-same : fields_at u under ≡ fields_at t under
    fields-same = ap₂ (λ G ns. fields_of G (plan_in (node_trees ns) under)) g.grows.functions g.grows.plans

    list-same : columns_in (view_in u).functions (fields_at u under) (map_of (view_in u) m) (needed_at (view_in u) x s) (exprs_in (view_in u).trees (numbers_of ids)) ≡ merged_list F (fields_at t under) es ps (needed_at (view_in t) x s)
    list-same =
        let p = g.grows.functions in
        let q = fields-same in
        let r = map-then in
        let n = needed-same in
        let w = g.trees in
        ap (λ G. columns_in G (fields_at u under) (map_of (view_in u) m) (needed_at (view_in u) x s) (exprs_in (view_in u).trees (numbers_of ids))) p
        ∙ ap₂ (λ ins k. columns_in F ins k (needed_at (view_in u) x s) (exprs_in (view_in u).trees (numbers_of ids))) q r
        ∙ ap₂ (λ cs acc. columns_in F (fields_at t under) M cs acc) n w

    pub all-merged : (r : Result (Unit {0}) Fault) (ids' : List ExprId)
        → WithinBy (view_in u) (columns_in (view_in u).functions (fields_at u under) (map_of (view_in u) m) (needed_at (view_in u) x s) (exprs_in (view_in u).trees (numbers_of ids))) r ids' → AllMerged t x s under es r ids' u
    all-merged r ids' b = go r (subst (λ l. WithinBy (view_in u) l r ids') list-same b)
      where
        go : (r : Result (Unit {0}) Fault) → WithinBy (view_in u) (merged_list F (fields_at t under) es ps (needed_at (view_in t) x s)) r ids' → AllMerged t x s under es r ids' u
        go (Ok y) c = record { present = c.present; trees = c.trees; few = c.few; grows = g.grows; spent = g.spent; numbers = g.numbers }
        go (Err d) c = inr c
