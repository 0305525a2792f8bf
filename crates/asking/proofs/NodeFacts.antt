-- What a node that is to be made names, and what its tree is asked, variant by variant.
use Rattle.std.proofs.Common.{◌≡◌, ℕ, ◌<◌, ◌≤◌, true, ◌&&◌, leb, List, [], ◌∷◌, map, length, get_or, refl, ap, ◌∙◌, subst, arith, Bor}
use Rattle.std.proofs.lemmas.List.{length-map}
use Rattle.std.proofs.lemmas.Bool.{and_parts, ltb-true, leb-true}
use Rattle.plan.specs.Terms.{Expr}
use Rattle.plan.specs.Functions.{Functions}
use Rattle.plan.specs.Plans.{Plan, fields_of, without_qualifier}
use Rattle.plan.specs.Questions.{expressions_of}
use Rattle.plan.specs.Model.{expr_in, exprs_in, plan_in, plans_in}
use Rattle.plan.specs.Calls.{below, all_below, parts, union_of}
use Rattle.plan.specs.declared.code.JoinKind.{JoinKind}
use Rattle.terms.specs.Views.{numbers_of}
use Rattle.entries.specs.declared.node.ExprId.{ExprId}
use Rattle.entries.specs.declared.node.PlanId.{PlanId}
use Rattle.tables.specs.Holding.{view_in, plan_count}
use Rattle.stored.specs.Making.{new_key, key_numbers, input_numbers, bounded}
use Rattle.tables.specs.Making.{present}
use Rattle.stored.specs.declared.node.NewNode.{NewNode}
use Rattle.stored.specs.declared.node.NewNode.TheVariants.{Table, Projection, Filter, Sort, Aggregate, Join}
use Rattle.stored.specs.declared.node.SortKey.{SortKey}
use Rattle.tables.specs.declared.tables.Tables.{Tables}

-- every node and expression that it names stands in the book
module _ (t : Tables) (n : NewNode) (h : present t n ≡ true) where
  pub projection-in : (i : PlanId) (l : Bor (List ExprId)) → n ≡ Projection i l → (i.0 < plan_count t) × (all_below (length (view_in t).trees) (numbers_of l.now) ≡ true)
  projection-in i l e =
      let p = and_parts (below (plan_count t) i.0) _ (subst (λ m. present t m ≡ true) e h) in
      (ltb-true _ _ p.0, p.1)

  pub filter-in : (i : PlanId) (x : ExprId) → n ≡ Filter i x → (i.0 < plan_count t) × (x.0 < length (view_in t).trees)
  filter-in i x e =
      let p = and_parts (below (plan_count t) i.0) _ (subst (λ m. present t m ≡ true) e h) in
      (ltb-true _ _ p.0, ltb-true _ _ p.1)

  pub sort-in : (i : PlanId) (ks : Bor (List SortKey)) → n ≡ Sort i ks → (i.0 < plan_count t) × (all_below (length (view_in t).trees) (key_numbers ks.now) ≡ true)
  sort-in i ks e =
      let p = and_parts (below (plan_count t) i.0) _ (subst (λ m. present t m ≡ true) e h) in
      (ltb-true _ _ p.0, p.1)

  pub aggregate-in : (i : PlanId) (gs us : Bor (List ExprId)) → n ≡ Aggregate i gs us
      → (i.0 < plan_count t) × (all_below (length (view_in t).trees) (numbers_of gs.now) ≡ true) × (all_below (length (view_in t).trees) (numbers_of us.now) ≡ true)
  aggregate-in i gs us e =
      let p = and_parts (below (plan_count t) i.0) _ (subst (λ m. present t m ≡ true) e h) in
      let q = and_parts (all_below (length (view_in t).trees) (numbers_of gs.now)) _ p.1 in
      (ltb-true _ _ p.0, q.0, q.1)

  pub join-in : (k : JoinKind) (l r : PlanId) (cs : Bor (List ExprId)) → n ≡ Join k l r cs
      → (l.0 < plan_count t) × (r.0 < plan_count t) × (all_below (length (view_in t).trees) (numbers_of cs.now) ≡ true)
  join-in k l r cs e =
      let p = and_parts (below (plan_count t) l.0 && below (plan_count t) r.0) _ (subst (λ m. present t m ≡ true) e h) in
      let q = and_parts (below (plan_count t) l.0) _ p.0 in
      (ltb-true _ _ q.0, ltb-true _ _ q.1, p.1)

-- its lists are not too long
module _ (n : NewNode) (h : bounded n ≡ true) where
  pub table-few : (q ns : Bor (List ℕ)) → n ≡ Table q ns → length (parts ns.now) ≤ 64
  table-few q ns e = leb-true _ _ (subst (λ m. bounded m ≡ true) e h)

  pub projection-few : (i : PlanId) (l : Bor (List ExprId)) → n ≡ Projection i l → length l.now ≤ 64
  projection-few i l e = leb-true _ _ (subst (λ m. bounded m ≡ true) e h)

  pub aggregate-few : (i : PlanId) (gs us : Bor (List ExprId)) → n ≡ Aggregate i gs us → (length gs.now ≤ 16) × (length us.now ≤ 16)
  aggregate-few i gs us e =
      let p = and_parts (leb (length gs.now) 16) _ (subst (λ m. bounded m ≡ true) e h) in
      (leb-true _ _ p.0, leb-true _ _ p.1)

-- a Sort's expressions are those that its keys name
pub key-expressions : (ts : List Expr) (ks : List SortKey) → map (λ k. k.by) (map (new_key ts) ks) ≡ exprs_in ts (key_numbers ks)
key-expressions ts [] = refl
key-expressions ts (k ∷ ks) = ap (λ xs. (new_key ts k).by ∷ xs) (key-expressions ts ks)

-- a Union has none
pub union-expressions : (ps : List Plan) → expressions_of (union_of ps) ≡ []
union-expressions [] = refl
union-expressions (p ∷ ps) = refl

pub exprs-length : (ts : List Expr) (ids : List ExprId) → length (exprs_in ts (numbers_of ids)) ≡ length ids
exprs-length ts ids = length-map (numbers_of ids) (expr_in ts) ∙ length-map ids (λ e. e.0)

-- a Union is as wide as its first input
pub union-width : (fs : Functions) (ts : List Plan) (ps : List PlanId) (d : PlanId) → 1 ≤ length ps → length (fields_of fs (union_of (plans_in ts (input_numbers ps)))) ≡ length (fields_of fs (plan_in ts (get_or ps 0 d).0))
union-width fs ts [] d h = absurd (omega arith)
union-width fs ts (p ∷ ps) d h = length-map (fields_of fs (plan_in ts p.0)) without_qualifier
