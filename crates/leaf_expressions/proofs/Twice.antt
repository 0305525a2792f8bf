-- The two walks of an Aggregate, one after the other: what the first made stays as the tables grow in the second.
use Rattle.std.proofs.Common.{◌≡◌, ℕ, true, List, [], ◌∷◌, ◌++◌, length, inl, inr, sym, refl, ap₂, ◌∙◌, subst, arith}
use Rattle.entries.specs.declared.node.ExprId.{ExprId}
use Rattle.entries.specs.declared.node.PlanId.{PlanId}
use Rattle.extracting.proofs.Growing.{grows-then, longer, owner-stays}
use Rattle.extracting.proofs.Numbers.{numbered-turn}
use Rattle.extracting.proofs.Rewritten.{Onward, all-onward}
use Rattle.extracting.proofs.Spaces.{AtMost, first-space, no-room, within-then, within_more}
use Rattle.extracting.proofs.Steps.{below-more, exprs-stay}
use Rattle.extracting.specs.Extractors.{extractor_of}
use Rattle.extracting.specs.Owners.{owner_by}
use Rattle.extracting.specs.Walking.{Stopped, WalkedAll, walks_in}
use Rattle.extracting.specs.declared.extractor.Extractor.{Extractor}
use Rattle.extracting.specs.declared.inputs.Inputs.TheVariants.{One}
use Rattle.plan.specs.Calls.{all_below}
use Rattle.plan.specs.Model.{exprs_in, plus}
use Rattle.plan.specs.Terms.{Expr}
use Rattle.plan.specs.declared.fault.Fault.{Fault}
use Rattle.rewriting.specs.Outlay.{list_space}
use Rattle.rewriting.specs.Routing
use Rattle.rewriting.specs.Routing.{routing_extract_all}
use Rattle.stepping.proofs.Chain.{fits-no-more}
use Rattle.tables.specs.Holding.{model_of, nodes_of, view_in}
use Rattle.tables.specs.declared.tables.Tables.{Tables}
use Rattle.terms.specs.Views.{numbers_of}
use Rattle.leaf_expressions.specs.Walks.{BothWalked}

both-space : (us vs : List Expr) → AtMost (plus (list_space us) (list_space vs)) (list_space (us ++ vs))
unfolding list_space
both-space [] vs = record { exprs = omega arith; plans = omega arith; entries = omega arith; fields = omega arith; bytes = omega arith }
both-space (u ∷ us) vs =
    let h = both-space us vs in
    record { exprs = omega (arith, h.exprs); plans = omega (arith, h.plans); entries = omega (arith, h.entries); fields = omega (arith, h.fields); bytes = omega (arith, h.bytes) }

-- two walks over the input i, from the extractor g on: through gs and then through us
module _ (t : Tables) (i : PlanId) (gs us : List Expr) (g : Routing.Extractor) where
  abbrev w : List Expr × Routing.Extractor
  w = walks_in t (One i) gs g

  abbrev v : List Expr × Routing.Extractor
  v = walks_in t (One i) us w.1

  onward : Onward w.1 v.1
  onward = all-onward (view_in t).functions (owner_by (view_in t).functions (nodes_of t) (One i)) us w.1

  pub first-stopped : (f : Fault) → Stopped t (list_space w.0) w.1 f → Stopped t (list_space (w.0 ++ v.0)) v.1 f
  first-stopped f (inl x) = inl ((x.0.0, fits-no-more (model_of t).used (list_space w.0) (list_space (w.0 ++ v.0)) (first-space w.0 v.0) x.0.1), onward.new x.1)
  first-stopped f (inr x) = inr (x.0, onward.full x.1)

  -- the first walk went through; ns are the numbers of the totals
  module _ (u : Tables) (y : Extractor) (rs : List ExprId) (a : WalkedAll t w rs u y) (ns : List ℕ) (there : all_below (length (view_in t).trees) ns ≡ true) (us-are : us ≡ exprs_in (view_in t).trees ns) where
    second-is : walks_in u (One i) (exprs_in (view_in u).trees ns) (extractor_of (view_in u) y) ≡ v
    second-is =
        ap₂ (λ F own. routing_extract_all F own (exprs_in (view_in u).trees ns) (extractor_of (view_in u) y)) a.grows.functions (owner-stays t u a.grows (One i))
        ∙ ap₂ (walks_in t (One i)) (exprs-stay t u a.grows ns there ∙ sym us-are) a.extractor

    pub second-stopped : (f : Fault) → Stopped u (list_space (walks_in u (One i) (exprs_in (view_in u).trees ns) (extractor_of (view_in u) y)).0) (walks_in u (One i) (exprs_in (view_in u).trees ns) (extractor_of (view_in u) y)).1 f
        → Stopped t (list_space (w.0 ++ v.0)) v.1 f
    second-stopped f h = go (subst (λ (z : List Expr × Routing.Extractor). Stopped u (list_space z.0) z.1 f) second-is h)
      where
        go : Stopped u (list_space v.0) v.1 f → Stopped t (list_space (w.0 ++ v.0)) v.1 f
        go (inl x) = inl ((x.0.0, no-room (model_of t).used (list_space w.0) (model_of u).used (list_space v.0) (list_space (w.0 ++ v.0)) a.spent (both-space w.0 v.0) x.0.1), x.1)
        go (inr x) = inr x

    pub both-walked : (u' : Tables) (y' : Extractor) (ss : List ExprId) → WalkedAll u (walks_in u (One i) (exprs_in (view_in u).trees ns) (extractor_of (view_in u) y)) ss u' y'
        → BothWalked t (w.0, v.0, v.1) (record { extractor = y'; groups = rs; totals = ss }) u'
    both-walked u' y' ss h =
        let b = subst (λ (z : List Expr × Routing.Extractor). WalkedAll u z ss u' y') second-is h in
        record {
          groups_in = below-more _ _ (numbers_of rs) (longer u u' b.grows) a.present;
          totals_in = b.present;
          groups = exprs-stay u u' b.grows (numbers_of rs) a.present ∙ a.trees;
          totals = b.trees;
          extractor = b.extractor;
          inside = b.inside;
          grows = grows-then (model_of t) (model_of u) (model_of u') a.grows b.grows;
          numbers = numbered-turn (model_of t) (model_of u) (model_of u') w.1.next v.1.next v.1.next onward.later refl a.numbers b.numbers;
          spent = within_more _ _ _ _ (within-then _ _ _ _ _ a.spent b.spent) (both-space w.0 v.0);
        }
