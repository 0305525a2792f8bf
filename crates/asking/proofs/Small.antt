-- Every expression of a book has a small tree and no overlong name.
use Rattle.std.proofs.Common.{◌≡◌, ℕ, ◌<◌, true, ◌&&◌, leb, List, [], ◌∷◌, length, sym, refl, ap, ◌∙◌, ap₂}
use Rattle.std.proofs.lemmas.Bool.{and_parts, and_from, le-leb, ltb-true}
use Rattle.plan.specs.Plans.{plan_size_of}
use Rattle.plan.specs.Fields.{every}
use Rattle.plan.specs.Questions.{expressions_of, shown_expressions, small_tree, short_name, limited}
use Rattle.plan.specs.Model.{expr_in, exprs_in, plans_in, no_expr}
use Rattle.plan.specs.Calls.{below, all_below}
use Rattle.terms.specs.Acceptance.{acceptable}
use Rattle.terms.specs.Views.{numbers_of}
use Rattle.terms.proofs.Bounds.{small}
use Rattle.lexicon.proofs.Frames.{every-at, every_append}
use Rattle.asking.specs.Asked.{functions_for, new_fields, new_tree}
use Rattle.tables.specs.Holding.{view_in, trees_in}
use Rattle.stored.specs.Making.{input_numbers}
use Rattle.tables.specs.Making.{present, tree_for}
use Rattle.stored.specs.declared.node.NewNode.{NewNode}
use Rattle.stored.specs.declared.node.NewNode.TheVariants.{Table, Projection, Filter, Sort, Limit, Aggregate, Join, SubqueryAlias, Union}
use Rattle.tables.specs.declared.tables.Tables.{Tables}
use Rattle.asking.specs.declared.asked.Asked.{Asked}
use Rattle.asking.proofs.NodeFacts.{projection-in, filter-in, sort-in, aggregate-in, join-in, key-expressions, union-expressions}

module _ (t : Tables) where
  one-accepted : (i : ℕ) → i < length (view_in t).trees → acceptable (view_in t).functions (expr_in (view_in t).trees i) ≡ true
  one-accepted i lt = every-at (acceptable (view_in t).functions) (view_in t).trees i no_expr lt t.terms.accepted

  one-small : (i : ℕ) → i < length (view_in t).trees → small_tree (expr_in (view_in t).trees i) ≡ true
  one-small i lt = le-leb _ _ (small (view_in t).functions (expr_in (view_in t).trees i) (one-accepted i lt))

  list-small : (ns : List ℕ) → all_below (length (view_in t).trees) ns ≡ true → every small_tree (exprs_in (view_in t).trees ns) ≡ true
  list-small [] h = refl
  list-small (n ∷ ns) h =
      let p = and_parts (below (length (view_in t).trees) n) (all_below (length (view_in t).trees) ns) h in
      and_from _ _ (one-small n (ltb-true _ _ p.0)) (list-small ns p.1)

  -- the expressions of a node are small where they all stand in the book
  pub all_small : (n : NewNode) → present t n ≡ true → every small_tree (expressions_of (tree_for t n)) ≡ true
  all_small (Table q ns) h = refl
  all_small (Projection i l) h = list-small (numbers_of l.now) (projection-in t (Projection i l) h i l refl).1
  all_small (Filter i e) h = and_from _ _ (one-small e.0 (filter-in t (Filter i e) h i e refl).1) refl
  all_small (Sort i ks) h =
      ap (every small_tree) (key-expressions (view_in t).trees ks.now) ∙ list-small _ (sort-in t (Sort i ks) h i ks refl).1
  all_small (Limit i s c) h = refl
  all_small (Aggregate i gs us) h =
      let p = aggregate-in t (Aggregate i gs us) h i gs us refl in
      every_append small_tree (exprs_in (view_in t).trees (numbers_of gs.now)) (exprs_in (view_in t).trees (numbers_of us.now)) (list-small (numbers_of gs.now) p.1) (list-small (numbers_of us.now) p.2)
  all_small (Join k l r cs) h = list-small (numbers_of cs.now) (join-in t (Join k l r cs) h k l r cs refl).2
  all_small (SubqueryAlias i n) h = refl
  all_small (Union is) h = ap (every small_tree) (union-expressions (plans_in (trees_in t) (input_numbers is.now)))

-- question 8, where fields and nodes keep their limits: what is left to ask is whether the names are short
pub limited-named : (a : Asked) → (leb (length (new_fields a)) 64 && leb (plan_size_of (new_tree a)) 64) ≡ true → every (short_name (functions_for a)) (shown_expressions (new_tree a)) ≡ limited (functions_for a) (new_tree a)
limited-named a few =
    sym (ap₂ (λ x y. x && (y && every (short_name (functions_for a)) (shown_expressions (new_tree a)))) few (all_small a.tables.now a.node a.present))
