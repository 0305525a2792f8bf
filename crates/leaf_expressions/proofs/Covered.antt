-- The second half of an extract over one input: the Projection, and the node rebuilt over it.
use Rattle.std.proofs.Common.{◌≡◌, ℕ, ◌<◌, ◌≤◌, true, List, length, Ok, Err, Result, refl, sym, ap, ap₂, ◌∙◌, subst, arith}
use Rattle.entries.specs.declared.node.PlanId.{PlanId}
use Rattle.extracting.specs.declared.extractor.Extractor.{Extractor}
use Rattle.plan.specs.Functions.{Functions}
use Rattle.plan.specs.Model.{Model, tree_at}
use Rattle.plan.specs.Plans.{Plan, fields_of}
use Rattle.plan.specs.Terms.{Field}
use Rattle.plan.specs.declared.fault.Fault.{Fault}
use Rattle.recovering.proofs.Rebuilt.{fields-kept, more-nodes}
use Rattle.rewriting.specs.Extracting.{rebuilt}
use Rattle.routing.specs.declared.owning.Side.TheVariants.{First}
use Rattle.stepping.proofs.Chain.{then-err, then-ok}
use Rattle.stepping.specs.Steps.{AllGood, Steps}
use Rattle.tables.proofs.Inputs.{tree-at}
use Rattle.tables.specs.Holding.{fields_at, model_of, plan_count, tree_in, view_in}
use Rattle.tables.specs.Making.{tree_for}
use Rattle.tables.specs.declared.tables.Tables.{Tables}
use Rattle.leaf_expressions.proofs.Projected.{Projected, projected as projected-facts}
use Rattle.leaf_expressions.proofs.Shaped.{node-tree, shape-stays}
use Rattle.leaf_expressions.proofs.Spending.{rebuilt-spends}
use Rattle.leaf_expressions.specs.Found.{Found, Renamed, Wider, over_one, projected}
use Rattle.leaf_expressions.specs.Shapes.{node_over, there_in, tree_with}
use Rattle.leaf_expressions.specs.declared.shape.Shape.{Shape}

module _ (t : Tables) (x : Extractor) (p i : PlanId) (s : Shape) where
  abbrev F : Functions
  F = (view_in t).functions

  abbrev fs : List Field
  fs = fields_at t p.0

  abbrev with : Plan → Plan
  with = tree_with (view_in t) s

  pub over-err : (e : Fault) (m m' : Model) → Steps (model_of t) x.next (projected t x First i.0) (Err e) m → Steps (model_of t) x.next (over_one t x i.0 fs with) (Err e) m'
  over-err e m m' a = then-err (model_of t) m m' x.next 0 (projected t x First i.0) (λ r k. rebuilt F 0 fs (with r) k) (omega arith) e (λ q k. rebuilt-spends F 0 fs (with q) k) a

  module _ (good : AllGood (model_of t)) (lt : i.0 < plan_count t) (node : p.0 < plan_count t) (found : Found t x First i.0) (there : there_in (view_in t) s ≡ true) (u : Tables) (r : PlanId)
      (a : Steps (model_of t) x.next (projected t x First i.0) (Ok r) (model_of u)) where
    pub facts : Projected t i.0 r.0 u
    facts = projected-facts t u i.0 x.next _ _ r good lt found.known a

    tree-is : tree_for u (node_over s r) ≡ with (tree_in u r.0)
    tree-is = node-tree u r s ∙ shape-stays t u facts.extends s (tree_in u r.0) there

    kept : fields_at u p.0 ≡ fs
    kept = fields-kept t u facts.extends p.0 node

    shown : fields_of (view_in u).functions (tree_for u (node_over s r)) ≡ fields_of F (with (tree_in u r.0))
    shown = ap₂ fields_of facts.extends.functions tree-is

    pub over-fits : ((R : Plan) → Wider (fields_of F R) (fields_at t i.0) → Renamed fs (fields_of F (with R))) → Renamed (fields_at u p.0) (fields_of (view_in u).functions (tree_for u (node_over s r)))
    over-fits h = subst (λ gs. Renamed gs (fields_of (view_in u).functions (tree_for u (node_over s r)))) (sym kept)
        (subst (Renamed fs) (sym shown) (h (tree_in u r.0) (subst (λ G. Wider (fields_of G (tree_in u r.0)) (fields_at t i.0)) facts.extends.functions facts.widens)))

    pub over-ok : (y : Result PlanId Fault) (m : Model) → Steps (model_of u) 0 (rebuilt (view_in u).functions 0 (fields_at u p.0) (tree_for u (node_over s r))) y m → Steps (model_of t) x.next (over_one t x i.0 fs with) y m
    over-ok y m b =
        let c : Steps (model_of u) 0 (rebuilt F 0 fs (with (tree_in u r.0))) y m =
        subst (λ G. Steps (model_of u) 0 (rebuilt G 0 fs (with (tree_in u r.0))) y m) facts.extends.functions
        (subst (λ gs. Steps (model_of u) 0 (rebuilt (view_in u).functions 0 gs (with (tree_in u r.0))) y m) kept
        (subst (λ q. Steps (model_of u) 0 (rebuilt (view_in u).functions 0 (fields_at u p.0) q) y m) tree-is b)) in
        then-ok (model_of t) (model_of u) m x.next 0 (projected t x First i.0) (λ q k. rebuilt F 0 fs (with q) k) (omega arith) r y a
        (subst (λ q. Steps (model_of u) 0 (rebuilt F 0 fs (with q)) y m) (sym (tree-at u r.0)) c)
