-- What was said of the tables before expressions and nodes were put behind, of the tables after it.
use Rattle.std.proofs.Common.{◌≡◌, ℕ, ◌<◌, true, List, length, get_or, sym, ap, ap₂, ◌∙◌, subst, arith, length-append}
use Rattle.std.proofs.lemmas.List.{get_or_append_left}
use Rattle.std.specs.List.{AllByRecursion}
use Rattle.entries.specs.declared.node.ExprId.{ExprId}
use Rattle.extracting.proofs.Growing.{extractor-kept, tree_kept}
use Rattle.extracting.specs.Extractors.{Inside, extractor_of}
use Rattle.extracting.specs.declared.extractor.Extractor.{Extractor}
use Rattle.plan.specs.Calls.{all_below}
use Rattle.plan.specs.Functions.{Functions}
use Rattle.plan.specs.Model.{exprs_in, no_node}
use Rattle.plan.specs.Plans.{Plan, fields_of}
use Rattle.plan.specs.Terms.Expr.{reference}
use Rattle.plan.specs.Terms.{Field}
use Rattle.recovering.proofs.Rebuilt.{more-nodes}
use Rattle.rewriting.specs.Extracting.{build_extraction_projection, build_extraction_projection_impl}
use Rattle.rewriting.specs.Limits.{OnlyEight}
use Rattle.rewriting.specs.Routing
use Rattle.rewriting.specs.Routing.{Pair, needed_of, pairs_of}
use Rattle.routing.specs.Sides.{side_of}
use Rattle.routing.specs.declared.owning.Side.{Side}
use Rattle.rows.specs.Standing.{Known}
use Rattle.stepping.specs.Lists.{NoTotals, at_side}
use Rattle.stepping.specs.Steps.{Extends}
use Rattle.stored.proofs.PlanFrames.{below_more}
use Rattle.tables.proofs.Inputs.{tree-at}
use Rattle.tables.specs.Holding.{model_of, plan_count, tree_in, view_in}
use Rattle.tables.specs.declared.tables.Tables.{Tables}
use Rattle.terms.proofs.Trees.{picked_same}
use Rattle.terms.specs.Views.{numbers_of}
use Rattle.leaf_expressions.specs.Found.{Found, needed_at, projected}

-- what is asked of an input, apart from the tables
pub record Fit (F : Functions) (p : Plan) (ps : List Pair) (cs : List Field) : Type 0 where
  pub only : OnlyEight F (build_extraction_projection_impl F p ps cs)
  pub known : AllByRecursion (λ d. Known (fields_of F p) d.0) ps
  pub plain : NoTotals F ps
  pub columns : AllByRecursion (λ c. Known (fields_of F p) (reference c)) cs

pub fit-same : (F G : Functions) (p q : Plan) (ps rs : List Pair) (cs ds : List Field) → F ≡ G → p ≡ q → ps ≡ rs → cs ≡ ds → Fit F p ps cs → Fit G q rs ds
fit-same F G p q ps rs cs ds f n k c h = subst (λ F. Fit F q rs ds) f (subst (λ p. Fit F p rs ds) n (subst (λ ps. Fit F p ps ds) k (subst (λ cs. Fit F p ps cs) c h)))

module _ (t u : Tables) (g : Extends (model_of t) (model_of u)) where
  pub input-stays : (i : ℕ) → i < plan_count t → i < plan_count u
  input-stays i lt = omega (arith, more-nodes t u g)

  pub node-stays : (i : ℕ) → i < plan_count t → tree_in u i ≡ tree_in t i
  node-stays i lt = sym (tree-at u i) ∙ ap (λ n. n.tree) (ap (λ ns. get_or ns i no_node) g.plans ∙ get_or_append_left (model_of t).plans g.nodes no_node i lt) ∙ tree-at t i

  pub list-stays : (ids : List ExprId) → all_below (length (view_in t).trees) (numbers_of ids) ≡ true → exprs_in (view_in u).trees (numbers_of ids) ≡ exprs_in (view_in t).trees (numbers_of ids)
  list-stays ids h =
      picked_same (view_in u).trees (view_in t).trees (length (view_in t).trees) (numbers_of ids) (λ k lt. tree_kept (view_in t) (view_in u) g.exprs.more g.text.more g.exprs.is g.text.is k lt) h

  pub list-there : (ids : List ExprId) → all_below (length (view_in t).trees) (numbers_of ids) ≡ true → all_below (length (view_in u).trees) (numbers_of ids) ≡ true
  list-there ids h = below_more (length (view_in t).trees) (length (view_in u).trees) (numbers_of ids) (omega (arith, ap length g.exprs.is, length-append (view_in t).trees g.exprs.more)) h

  module _ (x : Extractor) (inside : Inside (view_in t) x) where
    both : (extractor_of (view_in u) x ≡ extractor_of (view_in t) x) × Inside (view_in u) x
    both = extractor-kept (view_in t) (view_in u) g.exprs.more g.text.more g.exprs.is g.text.is x inside

    pub inside-stays : Inside (view_in u) x
    inside-stays = both.1

    module _ (s : Side) (i : ℕ) (lt : i < plan_count t) where
      pairs-stay : at_side (view_in u) x s ≡ at_side (view_in t) x s
      pairs-stay = ap (λ (e : Routing.Extractor). pairs_of (side_of s) e.entries) both.0

      needed-stays : needed_at (view_in u) x s ≡ needed_at (view_in t) x s
      needed-stays = ap (λ (e : Routing.Extractor). needed_of (side_of s) e.needed) both.0

      pub projected-stays : projected u x s i ≡ projected t x s i
      projected-stays =
          ap₂ (λ F p. build_extraction_projection F 0 p (at_side (view_in u) x s) (needed_at (view_in u) x s)) g.functions (node-stays i lt)
          ∙ ap₂ (build_extraction_projection (view_in t).functions 0 (tree_in t i)) pairs-stay needed-stays

      pub found-stays : Found t x s i → Found u x s i
      found-stays h =
          let here : Fit (view_in t).functions (tree_in t i) (at_side (view_in t) x s) (needed_at (view_in t) x s) = record { only = h.only; known = h.known; plain = h.plain; columns = h.columns } in
          let there = fit-same _ _ _ _ _ _ _ _ (sym g.functions) (sym (node-stays i lt)) (sym pairs-stay) (sym needed-stays) here in
          record { only = there.only; known = there.known; plain = there.plain; columns = there.columns }
