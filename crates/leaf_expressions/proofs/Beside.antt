-- A Join over two inputs: what was taken out for each is put over it, one after the other, and then the Join is rebuilt.
use Rattle.std.proofs.Common.{◌≡◌, ℕ, ◌+◌, ◌<◌, ◌≤◌, true, List, length, Ok, Err, Result, IfOk, sym, ap, ap₂, ◌∙◌, subst, arith}
use Rattle.entries.specs.declared.node.ExprId.{ExprId}
use Rattle.entries.specs.declared.node.PlanId.{PlanId}
use Rattle.extracting.specs.Extractors.{Inside}
use Rattle.extracting.specs.declared.extractor.Extractor.{Extractor}
use Rattle.plan.specs.Calls.{all_below}
use Rattle.plan.specs.Functions.{Functions}
use Rattle.plan.specs.Model.{Model, exprs_in, tree_at}
use Rattle.plan.specs.Plans.{Plan, fields_of}
use Rattle.plan.specs.Plans.Plan.{join}
use Rattle.plan.specs.Terms.{Expr, Field}
use Rattle.plan.specs.declared.code.JoinKind.{JoinKind}
use Rattle.plan.specs.declared.fault.Fault.{Fault}
use Rattle.recovering.proofs.Rebuilt.{fields-kept, more-nodes}
use Rattle.recovering.specs.Renaming.{can_rename}
use Rattle.rewriting.specs.Extracting.{Outcome, and_then, rebuilt}
use Rattle.rewriting.specs.Outlay.{Tally}
use Rattle.routing.specs.declared.owning.Side.TheVariants.{First, Second}
use Rattle.stepping.proofs.Chain.{Spends, extends-then, then-err, then-ok}
use Rattle.stepping.specs.Lists.{at_side}
use Rattle.stepping.specs.Steps.{AllGood, Extends, Steps}
use Rattle.tables.proofs.Inputs.{tree-at}
use Rattle.tables.specs.Holding.{fields_at, model_of, plan_count, tree_in, view_in}
use Rattle.tables.specs.declared.tables.Tables.{Tables}
use Rattle.terms.specs.Views.{numbers_of}
use Rattle.leaf_expressions.specs.Found.{Found, Renamed, Wider, needed_at, over_two, projected}
use Rattle.leaf_expressions.proofs.Later.{found-stays, input-stays, inside-stays, list-stays, list-there, node-stays, projected-stays}
use Rattle.leaf_expressions.proofs.Projected.{Projected, projected as projected-known}
use Rattle.leaf_expressions.proofs.Spending.{projection-spends, rebuilt-spends, then-spends}

pub last-later : (r : Result PlanId Fault) (a b c : ℕ) → a ≤ b → IfOk r (λ p. (b ≤ p.0) × (p.0 + 1 ≡ c)) → IfOk r (λ p. (a ≤ p.0) × (p.0 + 1 ≡ c))
last-later (Ok p) a b c le h = (omega (arith, h.0), h.1)
last-later (Err f) a b c le h = h

-- what is asked of a Join that is rebuilt
pub record Given (t : Tables) (x : Extractor) (l r p : ℕ) (kind : JoinKind) (ids : List ExprId) : Type 0 where
  pub node : p < plan_count t
  pub left : l < plan_count t
  pub right : r < plan_count t
  pub inside : Inside (view_in t) x
  pub good : AllGood (model_of t)
  pub found_left : Found t x First l
  pub found_right : Found t x Second r
  pub there : all_below (length (view_in t).trees) (numbers_of ids) ≡ true
  pub renamed : (y z : Plan) → Wider (fields_of (view_in t).functions y) (fields_at t l) → Wider (fields_of (view_in t).functions z) (fields_at t r)
      → Renamed (fields_at t p) (fields_of (view_in t).functions (join kind (exprs_in (view_in t).trees (numbers_of ids)) y z))

-- what then is known of the right input, once the left one has its Projection
pub record RightKnown (x : Extractor) (r : ℕ) (u : Tables) : Type 0 where
  pub there : r < plan_count u
  pub inside : Inside (view_in u) x
  pub good : AllGood (model_of u)
  pub found : Found u x Second r

-- and of both, once they have theirs
pub record BothKnown (p : ℕ) (kind : JoinKind) (ids : List ExprId) (a b : ℕ) (w : Tables) : Type 0 where
  pub left : a < plan_count w
  pub right : b < plan_count w
  pub node : p < plan_count w
  pub there : all_below (length (view_in w).trees) (numbers_of ids) ≡ true
  pub good : AllGood (model_of w)
  pub renamed : Renamed (fields_at w p) (fields_of (view_in w).functions (join kind (exprs_in (view_in w).trees (numbers_of ids)) (tree_in w a) (tree_in w b)))

module _ (t : Tables) (x : Extractor) (l r p : ℕ) (kind : JoinKind) (ids : List ExprId) where
  abbrev F : Functions
  F = (view_in t).functions

  abbrev m : Model
  m = model_of t

  abbrev cs : List Expr
  cs = exprs_in (view_in t).trees (numbers_of ids)

  abbrev fs : List Field
  fs = fields_at t p

  abbrev pub whole : Tally → Outcome
  whole = over_two t x l r fs (join kind cs)

  -- what follows both inputs, and what follows the left one
  abbrev last : Plan → Plan → Tally → Outcome
  last y z = rebuilt F 0 fs (join kind cs y z)

  abbrev next : Plan → Tally → Outcome
  next y k = and_then (projected t x Second r k) (last y)

  last-spends : (y : Plan) → Spends (last y)
  last-spends y = λ z k. rebuilt-spends F 0 fs (join kind cs y z) k

  next-spends : Spends next
  next-spends = λ y k. then-spends (projected t x Second r) (last y) (projection-spends F 0 (tree_in t r) (at_side (view_in t) x Second) (needed_at (view_in t) x Second)) (last-spends y) k

  pub left-refused : (e : Fault) (m1 m2 : Model) → Steps m x.next (projected t x First l) (Err e) m1 → Steps m x.next whole (Err e) m2
  left-refused e m1 m2 a = then-err m m1 m2 x.next x.next (projected t x First l) next (omega arith) e next-spends a

  module _ (g : Given t x l r p kind ids) (u : Tables) (a : PlanId) (over : Steps m x.next (projected t x First l) (Ok a) (model_of u)) where
    placed-left : Projected t l a.0 u
    placed-left = projected-known t u l x.next (at_side (view_in t) x First) (needed_at (view_in t) x First) a g.good g.left g.found_left.known over

    pub right-known : RightKnown x r u
    right-known = record {
      there = input-stays t u placed-left.extends r g.right;
      inside = inside-stays t u placed-left.extends x g.inside;
      good = placed-left.good;
      found = found-stays t u placed-left.extends x g.inside Second r g.right g.found_right;
    }

    module _ (w : Tables) where
      from-start : (b : Result PlanId Fault) → Steps (model_of u) x.next (projected u x Second r) b (model_of w) → Steps (model_of u) x.next (projected t x Second r) b (model_of w)
      from-start b s = subst (λ o. Steps (model_of u) x.next o b (model_of w)) (projected-stays t u placed-left.extends x g.inside Second r g.right) s

      pub right-refused : (e : Fault) (m2 : Model) → Steps (model_of u) x.next (projected u x Second r) (Err e) (model_of w) → Steps m x.next whole (Err e) m2
      right-refused e m2 s =
          then-ok m (model_of u) m2 x.next x.next (projected t x First l) next (omega arith) a (Err e) over
          (then-err (model_of u) (model_of w) m2 x.next x.next (projected t x Second r) (last (tree_at (model_of u) a.0)) (omega arith) e (last-spends (tree_at (model_of u) a.0)) (from-start (Err e) s))

      module _ (b : PlanId) (beside : Steps (model_of u) x.next (projected u x Second r) (Ok b) (model_of w)) where
        placed-right : Projected u r b.0 w
        placed-right = projected-known u w r x.next (at_side (view_in u) x Second) (needed_at (view_in u) x Second) b right-known.good right-known.there right-known.found.known beside

        extended : Extends m (model_of w)
        extended = extends-then m (model_of u) (model_of w) placed-left.extends placed-right.extends

        functions : (view_in w).functions ≡ F
        functions = extended.functions

        pub no-fewer : plan_count t ≤ plan_count w
        no-fewer = more-nodes t w extended

        abbrev new_tree : Plan
        new_tree = join kind (exprs_in (view_in w).trees (numbers_of ids)) (tree_in w a.0) (tree_in w b.0)

        new-fields : fields_of (view_in w).functions new_tree ≡ fields_of F (join kind cs (tree_in w a.0) (tree_in w b.0))
        new-fields = ap₂ (λ G ds. fields_of G (join kind ds (tree_in w a.0) (tree_in w b.0))) functions (list-stays t w extended ids g.there)

        old-fields : fields_at w p ≡ fs
        old-fields = fields-kept t w extended p g.node

        wide-left : Wider (fields_of F (tree_in w a.0)) (fields_at t l)
        wide-left = subst (λ gs. Wider gs (fields_at t l)) (ap₂ fields_of placed-left.extends.functions (sym (node-stays u w placed-right.extends a.0 placed-left.present))) placed-left.widens

        wide-right : Wider (fields_of F (tree_in w b.0)) (fields_at t r)
        wide-right =
            subst (λ gs. Wider gs (fields_at t r)) (ap (λ G. fields_of G (tree_in w b.0)) functions)
            (subst (λ gs. Wider (fields_at w b.0) gs) (fields-kept t u placed-left.extends r g.right) placed-right.widens)

        pub both-known : BothKnown p kind ids a.0 b.0 w
        both-known = record {
          left = input-stays u w placed-right.extends a.0 placed-left.present;
          right = placed-right.present;
          node = input-stays t w extended p g.node;
          there = list-there t w extended ids g.there;
          good = placed-right.good;
          renamed = λ many. ap₂ can_rename old-fields new-fields ∙ g.renamed (tree_in w a.0) (tree_in w b.0) wide-left wide-right (ap length (sym old-fields) ∙ many ∙ ap length new-fields);
        }

        rebuilt-stays : rebuilt (view_in w).functions 0 (fields_at w p) new_tree ≡ last (tree_at (model_of u) a.0) (tree_at (model_of w) b.0)
        rebuilt-stays =
            ap₂ (λ G gs. rebuilt G 0 gs new_tree) functions old-fields ∙ ap (λ ds. rebuilt F 0 fs (join kind ds (tree_in w a.0) (tree_in w b.0))) (list-stays t w extended ids g.there)
            ∙ ap₂ last (node-stays u w placed-right.extends a.0 placed-left.present ∙ sym (tree-at u a.0)) (sym (tree-at w b.0))

        pub all-made : (c : Result PlanId Fault) (m3 : Model) → Steps (model_of w) 0 (rebuilt (view_in w).functions 0 (fields_at w p) new_tree) c m3 → Steps m x.next whole c m3
        all-made c m3 s =
            then-ok m (model_of u) m3 x.next x.next (projected t x First l) next (omega arith) a c over
            (then-ok (model_of u) (model_of w) m3 x.next 0 (projected t x Second r) (last (tree_at (model_of u) a.0)) (omega arith) b c (from-start (Ok b) beside) (subst (λ o. Steps (model_of w) 0 o c m3) rebuilt-stays s))
