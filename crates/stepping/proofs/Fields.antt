-- The fields of every node of the tables have good names: a name that was given is good, and a rendered one is plain, has no number and is short enough.
use Rattle.std.proofs.Common.{◌≡◌, ℕ, zero, suc, ◌<◌, Bool, true, false, ◌&&◌, leb, List, [], ◌∷◌, ◌++◌, map, length, get_or, sym, refl, subst, arith}
use Rattle.std.proofs.lemmas.Bool.{and_from, and_parts, ltb-true}
use Rattle.std.proofs.lemmas.List.{length-map}
use Rattle.entries.specs.declared.node.Run.{Run}
use Rattle.lexicon.proofs.Frames.{every-at, every_append}
use Rattle.lexicon.specs.Declarations.{good_function}
use Rattle.names.specs.Spans.{word}
use Rattle.plan.specs.Calls.{all_below, below, good_field, good_qualifier, union_of}
use Rattle.plan.specs.Fields.{every}
use Rattle.plan.specs.Functions.{Functions}
use Rattle.plan.specs.Model.{no_expr, no_plan, plan_in, plans_in}
use Rattle.plan.specs.Names.{Name, good_name}
use Rattle.plan.specs.Plans.{Plan, column_of, fields_of, kept_if, plan_size_of, qualified_by, shows_left, shows_right, without_qualifier}
use Rattle.plan.specs.Plans.Plan.{aggregate, filter, join, limit, projection, sort, subquery_alias, table, union}
use Rattle.plan.specs.Questions.{expressions_of, short_name, shown_expressions, small_tree}
use Rattle.plan.specs.Terms.{Field}
use Rattle.rewriting.proofs.Fresh.{yes_true}
use Rattle.rows.specs.Standing.{Good, Passed}
use Rattle.stepping.proofs.Rendered.{all-shown-good}
use Rattle.stepping.specs.Steps.{AllGood}
use Rattle.stored.specs.Stored.{build_plan_node, node_inputs, run_exprs, run_numbers, well_formed}
use Rattle.stored.specs.declared.node.PlanNode.{PlanNode}
use Rattle.stored.specs.declared.node.PlanNode.TheVariants.{Aggregate, Filter, Join, Limit, Projection, Sort, SubqueryAlias, Table, Union}
use Rattle.tables.proofs.Inputs.{inputs-below, node_at_lem, tree-at}
use Rattle.tables.specs.Holding.{fields_at, model_of, nodes_of, plan_count, tree_in, trees_in, view_in}
use Rattle.tables.specs.declared.tables.Tables.{Tables}
use Rattle.terms.specs.Acceptance.{acceptable}
use Rattle.terms.specs.Views.{View}

-- a test of each item of a list, of a list of others made from it, and of items that are picked
every-map : {X Y : Type 0} (p : X → Bool) (q : Y → Bool) (f : X → Y) → ((x : X) → p x ≡ true → q (f x) ≡ true) → (xs : List X) → every p xs ≡ true → every q (map f xs) ≡ true
every-map p q f step [] h = refl
every-map p q f step (x ∷ xs) h =
    let a = and_parts (p x) (every p xs) h in
    and_from _ _ (step x a.0) (every-map p q f step xs a.1)

module _ {X : Type 0} (p : X → Bool) (d : X) (other : p d ≡ true) where
  at-or : (xs : List X) (i : ℕ) → every p xs ≡ true → p (get_or xs i d) ≡ true
  at-or [] i h = other
  at-or (x ∷ xs) zero h = (and_parts (p x) (every p xs) h).0
  at-or (x ∷ xs) (suc i) h = at-or xs i (and_parts (p x) (every p xs) h).1

  every-picked : (xs : List X) (is : List ℕ) → every p xs ≡ true → every p (map (λ i. get_or xs i d) is) ≡ true
  every-picked xs [] h = refl
  every-picked xs (i ∷ is) h = and_from _ _ (at-or xs i h) (every-picked xs is h)

-- fields with another qualifier, or with none
good-column : (q n : Name) → good_name q ≡ true → good_name n ≡ true → good_field (column_of q n) ≡ true
good-column q n h k = and_from _ _ k h

good-qualified : (q : Name) (f : Field) → good_name q ≡ true → good_field f ≡ true → good_field (qualified_by q f) ≡ true
good-qualified q f h k = and_from _ _ (and_parts (good_name f.name) (good_qualifier f.qualifier) k).0 h

good-bare : (f : Field) → good_field f ≡ true → good_field (without_qualifier f) ≡ true
good-bare f k = and_from _ _ (and_parts (good_name f.name) (good_qualifier f.qualifier) k).0 refl

every-kept : (b : Bool) (fs : List Field) → every good_field fs ≡ true → every good_field (kept_if b fs) ≡ true
every-kept true fs h = h
every-kept false fs h = refl

-- the expressions that give a node its fields have short names
short-passed : (F : Functions) (p : Plan) → Passed F p → every (short_name F) (shown_expressions p) ≡ true
short-passed F p g =
    let a = and_parts (leb (length (fields_of F p)) 64 && leb (plan_size_of p) 64) (every small_tree (expressions_of p) && every (short_name F) (shown_expressions p)) (yes_true _ g.limits) in
    (and_parts (every small_tree (expressions_of p)) (every (short_name F) (shown_expressions p)) a.1).1

shown-short : (F : Functions) (p : Plan) → Good F p → every (short_name F) (shown_expressions p) ≡ true
shown-short F (table k q ns) g = refl
shown-short F (projection es i) g = short-passed F (projection es i) g.0
shown-short F (filter e i) g = refl
shown-short F (sort ks i) g = refl
shown-short F (limit s c i) g = refl
shown-short F (aggregate gs ts i) g = short-passed F (aggregate gs ts i) g.0
shown-short F (join k cs l r) g = refl
shown-short F (subquery_alias n i) g = refl
shown-short F (union i is) g = refl

-- one node, over the trees of the nodes before it
module _ (v : View) (accepted : every (acceptable v.functions) v.trees ≡ true) (good : every good_function v.functions ≡ true) where
  run-good : (l : Run) → every (acceptable v.functions) (run_exprs v l) ≡ true
  run-good l = every-picked (acceptable v.functions) no_expr refl v.trees (run_numbers v.entries l) accepted

  module _ (ts : List Plan) (i : ℕ) (lower : (k : ℕ) → k < i → every good_field (fields_of v.functions (plan_in ts k)) ≡ true) where
    first-good : (k : ℕ) (ks : List ℕ) → all_below i (k ∷ ks) ≡ true → every good_field (fields_of v.functions (plan_in ts k)) ≡ true
    first-good k ks h = lower k (ltb-true k i (and_parts (below i k) (all_below i ks) h).0)

    union-good : (is : List ℕ) → all_below i is ≡ true → every good_field (fields_of v.functions (union_of (plans_in ts is))) ≡ true
    union-good [] h = refl
    union-good (k ∷ ks) h = every-map good_field good_field without_qualifier good-bare (fields_of v.functions (plan_in ts k)) (first-good k ks h)

    node-good : (fs : List Field) (n : PlanNode) → all_below i (node_inputs v.entries n) ≡ true → well_formed v.functions (build_plan_node v fs ts n) ≡ true
        → every (short_name v.functions) (shown_expressions (build_plan_node v fs ts n)) ≡ true → every good_field (fields_of v.functions (build_plan_node v fs ts n)) ≡ true
    node-good fs (Table k q) h w s =
        let p = and_parts (good_name (word v.bytes q)) (every good_name (map (λ f. f.name) fs)) w in
        every-map good_name good_field (column_of (word v.bytes q)) (λ n. good-column (word v.bytes q) n p.0) (map (λ f. f.name) fs) p.1
    node-good fs (Projection k l) h w s = all-shown-good v.functions good (run_exprs v l) (run-good l) s
    node-good fs (Filter k e) h w s = first-good k.0 [] h
    node-good fs (Sort k l) h w s = first-good k.0 [] h
    node-good fs (Limit k a c) h w s = first-good k.0 [] h
    node-good fs (Aggregate k gs us) h w s =
        all-shown-good v.functions good (run_exprs v gs ++ run_exprs v us) (every_append (acceptable v.functions) (run_exprs v gs) (run_exprs v us) (run-good gs) (run-good us)) s
    node-good fs (Join j l r cs) h w s =
        let ls = fields_of v.functions (plan_in ts l.0) in
        let rs = fields_of v.functions (plan_in ts r.0) in
        every_append good_field (kept_if (shows_left j) ls) (kept_if (shows_right j) rs) (every-kept (shows_left j) ls (first-good l.0 (r.0 ∷ []) h))
        (every-kept (shows_right j) rs (first-good r.0 [] (and_parts (below i l.0) (all_below i (r.0 ∷ [])) h).1))
    node-good fs (SubqueryAlias k n) h w s =
        every-map good_field good_field (qualified_by (word v.bytes n)) (λ f. good-qualified (word v.bytes n) f w) (fields_of v.functions (plan_in ts k.0)) (first-good k.0 [] h)
    node-good fs (Union l) h w s = union-good (run_numbers v.entries l) h

-- every node
module _ (t : Tables) (good : AllGood (model_of t)) where
  short-at : (i : ℕ) → i < plan_count t → every (short_name (view_in t).functions) (shown_expressions (tree_in t i)) ≡ true
  short-at i lt = shown-short (view_in t).functions (tree_in t i) (subst (Good (view_in t).functions) (tree-at t i) (good i lt))

  formed-at : (i : ℕ) → i < plan_count t → well_formed (view_in t).functions (tree_in t i) ≡ true
  formed-at i lt = every-at (well_formed (view_in t).functions) (trees_in t) i no_plan (omega (arith, length-map (nodes_of t) (λ n. n.tree))) t.formed

  good-next : (i : ℕ) → i < plan_count t → ((k : ℕ) → k < i → every good_field (fields_at t k) ≡ true) → every good_field (fields_at t i) ≡ true
  good-next i lt lower =
      let v = view_in t in
      let h = node_at_lem t i lt in
      subst (λ p. every good_field (fields_of v.functions p) ≡ true) (sym h.tree)
      (node-good v t.terms.accepted t.terms.lexicon.good (trees_in t) i lower (fields_at t i) _ (inputs-below v i _ h.inside)
      (subst (λ p. well_formed v.functions p ≡ true) h.tree (formed-at i lt)) (subst (λ p. every (short_name v.functions) (shown_expressions p) ≡ true) h.tree (short-at i lt)))

  good-below : (n i : ℕ) → i < n → i < plan_count t → every good_field (fields_at t i) ≡ true
  good-below zero i l lt = absurd (omega arith)
  good-below (suc n) i l lt = good-next i lt (λ k m. good-below n k (omega arith) (omega arith))

  pub good-fields : (i : ℕ) → i < plan_count t → every good_field (fields_at t i) ≡ true
  good-fields i lt = good-below (suc i) i (omega arith) lt
