-- A shape over an input as a node, and as the tables grow.
use Rattle.std.proofs.Common.{◌≡◌, ℕ, ◌<◌, ◌≤◌, true, ◌&&◌, List, [], ◌∷◌, map, length, refl, sym, ap, ap₂, ◌∙◌, subst, arith, length-append}
use Rattle.std.proofs.lemmas.Bool.{and_from, and_parts, lt-ltb, ltb-true}
use Rattle.std.proofs.lemmas.List.{get_or_append_left}
use Rattle.entries.specs.declared.node.ExprId.{ExprId}
use Rattle.entries.specs.declared.node.PlanId.{PlanId}
use Rattle.extracting.proofs.Steps.{below-more}
use Rattle.plan.specs.Calls.{all_below, below}
use Rattle.plan.specs.Fields.{every}
use Rattle.plan.specs.Functions.{is_total}
use Rattle.plan.specs.Model.{expr_in, exprs_in, no_expr}
use Rattle.plan.specs.Plans.{Plan}
use Rattle.plan.specs.Plans.Plan.{aggregate, filter, sort}
use Rattle.stepping.specs.Steps.{Buildable, Extends}
use Rattle.stored.specs.Making.{bounded, key_numbers, new_key, well_named}
use Rattle.stored.specs.declared.node.SortKey.{SortKey}
use Rattle.tables.specs.Holding.{model_of, plan_count, tree_in, view_in}
use Rattle.tables.specs.Making.{present, tree_for, well_placed}
use Rattle.tables.specs.declared.tables.Tables.{Tables}
use Rattle.terms.proofs.Trees.{picked_same}
use Rattle.terms.specs.Views.{numbers_of}
use Rattle.leaf_expressions.specs.Shapes.{node_over, short, there_in, totals_in, tree_with}
use Rattle.leaf_expressions.specs.declared.shape.Shape.{Shape}
use Rattle.leaf_expressions.specs.declared.shape.Shape.TheVariants.{Filter, Sort, Aggregate}

module _ (u : Tables) (r : PlanId) where
  pub node-present : (s : Shape) → there_in (view_in u) s ≡ true → r.0 < plan_count u → present u (node_over s r) ≡ true
  node-present (Filter e) h lt = and_from _ _ (lt-ltb r.0 (plan_count u) lt) h
  node-present (Sort ks) h lt = and_from _ _ (lt-ltb r.0 (plan_count u) lt) h
  node-present (Aggregate gs us) h lt = and_from _ _ (lt-ltb r.0 (plan_count u) lt) h

  pub node-bounded : (s : Shape) → short s ≡ true → bounded (node_over s r) ≡ true
  node-bounded (Filter e) h = refl
  node-bounded (Sort ks) h = h
  node-bounded (Aggregate gs us) h = h

  pub node-named : (s : Shape) → well_named (node_over s r) ≡ true
  node-named (Filter e) = refl
  node-named (Sort ks) = refl
  node-named (Aggregate gs us) = refl

  pub node-placed : (s : Shape) → well_placed u (node_over s r) ≡ true
  node-placed (Filter e) = refl
  node-placed (Sort ks) = refl
  node-placed (Aggregate gs us) = refl

  pub node-kind : (s : Shape) → totals_in (view_in u) s ≡ true → Buildable u (node_over s r)
  node-kind (Filter e) h = tt
  node-kind (Sort ks) h = tt
  node-kind (Aggregate gs us) h = h

  pub node-tree : (s : Shape) → tree_for u (node_over s r) ≡ tree_with (view_in u) s (tree_in u r.0)
  node-tree (Filter e) = refl
  node-tree (Sort ks) = refl
  node-tree (Aggregate gs us) = refl

-- what was there is still there, and the same
module _ (t u : Tables) (x : Extends (model_of t) (model_of u)) where
  longer : length (view_in t).trees ≤ length (view_in u).trees
  longer = omega (arith, ap length x.exprs.is, length-append (view_in t).trees x.exprs.more)

  one-stays : (e : ℕ) → e < length (view_in t).trees → expr_in (view_in u).trees e ≡ expr_in (view_in t).trees e
  one-stays e lt = ap (λ l. expr_in l e) x.exprs.is ∙ get_or_append_left (view_in t).trees x.exprs.more no_expr e lt

  pub all-stay : (ns : List ℕ) → all_below (length (view_in t).trees) ns ≡ true → exprs_in (view_in u).trees ns ≡ exprs_in (view_in t).trees ns
  all-stay ns h = picked_same (view_in u).trees (view_in t).trees (length (view_in t).trees) ns (λ k lt. one-stays k lt) h

  pub all-there : (ns : List ℕ) → all_below (length (view_in t).trees) ns ≡ true → all_below (length (view_in u).trees) ns ≡ true
  all-there ns h = below-more _ _ ns longer h

  keys-stay : (ks : List SortKey) → all_below (length (view_in t).trees) (key_numbers ks) ≡ true → map (new_key (view_in u).trees) ks ≡ map (new_key (view_in t).trees) ks
  keys-stay [] h = refl
  keys-stay (k ∷ ks) h =
      let p = and_parts (below (length (view_in t).trees) k.by.0) (all_below (length (view_in t).trees) (key_numbers ks)) h in
      ap₂ (λ a l. record { by = a; direction = k.direction } ∷ l) (one-stays k.by.0 (ltb-true _ _ p.0)) (keys-stay ks p.1)

  pub shape-there : (s : Shape) → there_in (view_in t) s ≡ true → there_in (view_in u) s ≡ true
  shape-there (Filter e) h = lt-ltb _ _ (let l = ltb-true _ _ h in omega (arith, longer))
  shape-there (Sort ks) h = all-there (key_numbers ks.now) h
  shape-there (Aggregate gs us) h =
      let p = and_parts (all_below (length (view_in t).trees) (numbers_of gs.now)) (all_below (length (view_in t).trees) (numbers_of us.now)) h in
      and_from _ _ (all-there (numbers_of gs.now) p.0) (all-there (numbers_of us.now) p.1)

  pub shape-stays : (s : Shape) (R : Plan) → there_in (view_in t) s ≡ true → tree_with (view_in u) s R ≡ tree_with (view_in t) s R
  shape-stays (Filter e) R h = ap (λ d. filter d R) (one-stays e.0 (ltb-true _ _ h))
  shape-stays (Sort ks) R h = ap (λ l. sort l R) (keys-stay ks.now h)
  shape-stays (Aggregate gs us) R h =
      let p = and_parts (all_below (length (view_in t).trees) (numbers_of gs.now)) (all_below (length (view_in t).trees) (numbers_of us.now)) h in
      ap₂ (λ a b. aggregate a b R) (all-stay (numbers_of gs.now) p.0) (all-stay (numbers_of us.now) p.1)

  pub totals-stay : (s : Shape) → there_in (view_in t) s ≡ true → totals_in (view_in t) s ≡ true → totals_in (view_in u) s ≡ true
  totals-stay (Filter e) h k = refl
  totals-stay (Sort ks) h k = refl
  totals-stay (Aggregate gs us) h k =
      let p = and_parts (all_below (length (view_in t).trees) (numbers_of gs.now)) (all_below (length (view_in t).trees) (numbers_of us.now)) h in
      ap₂ (λ F l. every (is_total F) l) x.functions (all-stay (numbers_of us.now) p.1) ∙ k
