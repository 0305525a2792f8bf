-- What the next number of a book is after one thing more: a node that brings no name of its own leaves it as it was, an expression of lower numbers keeps it low.
use Rattle.std.proofs.Common.{◌≡◌, ℕ, suc, ◌<◌, ◌≤◌, max, true, List, [], ◌∷◌, ◌++◌, map, length, sym, refl, ap, ◌∙◌, subst, ap₂, arith}
use Rattle.std.specs.List.{flat_map}
use Rattle.std.proofs.lemmas.Grind.{flat_map-append}
use Rattle.std.proofs.lemmas.List.{append-nil}
use Rattle.numbering.specs.Own.{names_in}
use Rattle.numbering.proofs.Bounded.{all-shown-kept, expr-fields, joined-below, mapped-names, no-shown-below, plan_fields, shown_name, union-fields-below}
use Rattle.numbering.proofs.Highest.{at-below, both-below, first-below, highest-append, highest-from, highest-none, none-above, picked-below, second-below}
use Rattle.numbering.proofs.Places.{columns-named, no-expr-below, no-plan-below, node_all, of-list, of-nodes, plan_own, trees-below, union-below}
use Rattle.plan.specs.Calls.{parts}
use Rattle.plan.specs.Functions.{Functions}
use Rattle.plan.specs.Model.{Model, Node, expr_in, exprs_in, no_expr, no_plan, plan_in, plans_in}
use Rattle.plan.specs.Plans.{Plan, fields_of, qualified_by}
use Rattle.plan.specs.Terms.{Expr}
use Rattle.rewriting.specs.Generated.{book_names, expr_names, highest, list_names, next_number, node_names, plan_names}
use Rattle.tables.specs.Holding.{model_of, nodes_of, plan_count, trees_in, view_in}
use Rattle.stored.specs.Making.{input_numbers, new_key, tree_over}
use Rattle.tables.specs.Making.{NodeStored, present, tree_for}
use Rattle.stored.specs.Stored.{node_trees}
use Rattle.stored.specs.declared.node.NewNode.{NewNode}
use Rattle.stored.specs.declared.node.NewNode.TheVariants.{Aggregate, Filter, Join, Limit, Projection, Sort, SubqueryAlias, Table, Union}
use Rattle.stored.specs.declared.node.SortKey.{SortKey}
use Rattle.tables.specs.declared.tables.Tables.{Tables}
use Rattle.terms.specs.Views.{View, numbers_of}

listed-both : (es ds : List Expr) → list_names (es ++ ds) ≡ list_names es ++ list_names ds
listed-both es ds = of-list (es ++ ds) ∙ flat_map-append expr_names es ds ∙ sym (ap₂ (λ xs ys. xs ++ ys) (of-list es) (of-list ds))

-- a new node's names and the names of its fields are its own, those of expressions that are there, and those of nodes that are there
module _ (m : ℕ) where
  keys-below : (es : List Expr) (ks : List SortKey) → highest 0 (flat_map expr_names es) ≤ m → highest 0 (list_names (map (λ k. k.by) (map (new_key es) ks))) ≤ m
  unfolding list_names
  keys-below es [] h = none-above m
  keys-below es (k ∷ ks) h = both-below m (expr_names (expr_in es k.by.0)) _ (at-below m expr_names no_expr (no-expr-below m) es k.by.0 h) (keys-below es ks h)

  module _ (v : View) (k : ℕ) (ts : List Plan) where
    module _ (known : highest 0 (flat_map expr_names v.trees) ≤ m) (h : highest 0 (flat_map plan_names ts) ≤ m) where
      input-below : (i : ℕ) → highest 0 (plan_names (plan_in ts i)) ≤ m
      input-below i = at-below m plan_names no_plan (no-plan-below m) ts i h

      exprs-below : (is : List ℕ) → highest 0 (list_names (exprs_in v.trees is)) ≤ m
      exprs-below is = subst (λ ns. highest 0 ns ≤ m) (sym (of-list (exprs_in v.trees is))) (picked-below m expr_names no_expr (no-expr-below m) v.trees is known)

      names-below : (n : NewNode) → highest 0 (plan_own (tree_over v k ts n)) ≤ m → highest 0 (plan_names (tree_over v k ts n)) ≤ m
      unfolding plan_names
      names-below (Table q ns) own = own
      names-below (Projection i l) own = both-below m (list_names (exprs_in v.trees (numbers_of l.now))) (plan_names (plan_in ts i.0)) (exprs-below (numbers_of l.now)) (input-below i.0)
      names-below (Filter i e) own = both-below m (expr_names (expr_in v.trees e.0)) (plan_names (plan_in ts i.0)) (at-below m expr_names no_expr (no-expr-below m) v.trees e.0 known) (input-below i.0)
      names-below (Sort i ks) own = both-below m (list_names (map (λ k. k.by) (map (new_key v.trees) ks.now))) (plan_names (plan_in ts i.0)) (keys-below v.trees ks.now known) (input-below i.0)
      names-below (Limit i s c) own = input-below i.0
      names-below (Aggregate i gs us) own =
          let groups = exprs_in v.trees (numbers_of gs.now) in
          let totals = exprs_in v.trees (numbers_of us.now) in
          let lists = both-below m (list_names groups) (list_names totals) (exprs-below (numbers_of gs.now)) (exprs-below (numbers_of us.now)) in
          both-below m (list_names (groups ++ totals)) (plan_names (plan_in ts i.0)) (subst (λ ns. highest 0 ns ≤ m) (sym (listed-both groups totals)) lists) (input-below i.0)
      names-below (Join j l r cs) own =
          both-below m (list_names (exprs_in v.trees (numbers_of cs.now))) (plan_names (plan_in ts l.0) ++ plan_names (plan_in ts r.0)) (exprs-below (numbers_of cs.now))
          (both-below m (plan_names (plan_in ts l.0)) (plan_names (plan_in ts r.0)) (input-below l.0) (input-below r.0))
      names-below (SubqueryAlias i n) own = both-below m (n.now ∷ []) (plan_names (plan_in ts i.0)) own (input-below i.0)
      names-below (Union is) own = union-below m (plans_in ts (input_numbers is.now)) (picked-below m plan_names no_plan (no-plan-below m) ts (input_numbers is.now) h)

    module _ (F : Functions) (known : highest 0 (flat_map (shown_name F) v.trees) ≤ m) (h : highest 0 (flat_map (plan_fields F) ts) ≤ m) where
      input-fields-below : (i : ℕ) → highest 0 (plan_fields F (plan_in ts i)) ≤ m
      input-fields-below i = at-below m (plan_fields F) no_plan (none-above m) ts i h

      shown-below : (is : List ℕ) → highest 0 (flat_map (shown_name F) (exprs_in v.trees is)) ≤ m
      shown-below is = picked-below m (shown_name F) no_expr (no-shown-below F m) v.trees is known

      fields-below : (n : NewNode) → highest 0 (plan_own (tree_over v k ts n)) ≤ m → highest 0 (plan_fields F (tree_over v k ts n)) ≤ m
      fields-below (Table q ns) own = subst (λ xs. highest 0 xs ≤ m) (sym (columns-named q.now (parts ns.now))) (second-below m (q.now ∷ []) (parts ns.now) own)
      fields-below (Projection i l) own = subst (λ ns. highest 0 ns ≤ m) (sym (expr-fields F (exprs_in v.trees (numbers_of l.now)))) (shown-below (numbers_of l.now))
      fields-below (Filter i e) own = input-fields-below i.0
      fields-below (Sort i ks) own = input-fields-below i.0
      fields-below (Limit i s c) own = input-fields-below i.0
      fields-below (Aggregate i gs us) own =
          let groups = exprs_in v.trees (numbers_of gs.now) in
          let totals = exprs_in v.trees (numbers_of us.now) in
          let lists = both-below m (flat_map (shown_name F) groups) (flat_map (shown_name F) totals) (shown-below (numbers_of gs.now)) (shown-below (numbers_of us.now)) in
          subst (λ ns. highest 0 ns ≤ m) (sym (expr-fields F (groups ++ totals) ∙ flat_map-append (shown_name F) groups totals)) lists
      fields-below (Join j l r cs) own = joined-below m j (fields_of F (plan_in ts l.0)) (fields_of F (plan_in ts r.0)) (input-fields-below l.0) (input-fields-below r.0)
      fields-below (SubqueryAlias i n) own = subst (λ ns. highest 0 ns ≤ m) (sym (mapped-names (qualified_by n.now) (fields_of F (plan_in ts i.0)) (λ f. refl))) (input-fields-below i.0)
      fields-below (Union is) own = union-fields-below F m (plans_in ts (input_numbers is.now)) (picked-below m (plan_fields F) no_plan (none-above m) ts (input_numbers is.now) h)

-- the fields of all nodes, and their trees
trees-fields-below : (F : Functions) (m : ℕ) (ns : List Node) → highest 0 (flat_map (node_all F) ns) ≤ m → highest 0 (flat_map (plan_fields F) (node_trees ns)) ≤ m
trees-fields-below F m [] h = none-above m
trees-fields-below F m (n ∷ ns) h =
    both-below m (plan_fields F n.tree) (flat_map (plan_fields F) (node_trees ns)) (first-below m (plan_fields F n.tree) (plan_names n.tree) (first-below m (node_all F n) (flat_map (node_all F) ns) h))
    (trees-fields-below F m ns (second-below m (node_all F n) (flat_map (node_all F) ns) h))

-- a book that has these expressions and nodes more
pub grown-names : (m m' : Model) (es : List Expr) (ns : List Node) → m'.functions ≡ m.functions → m'.exprs ≡ m.exprs ++ es → m'.plans ≡ m.plans ++ ns
    → highest 0 (book_names m') ≡ max (highest 0 (book_names m)) (max (highest 0 (list_names es)) (highest 0 (flat_map (node_all m.functions) ns)))
unfolding book_names
grown-names m m' es ns f e p =
    let F = m.functions in
    let names : book_names m' ≡ list_names (m.exprs ++ es) ++ node_names F (m.plans ++ ns) = ap₂ (λ x y. x ++ y) (ap list_names e) (ap₂ node_names f p) in
    let exprs : list_names (m.exprs ++ es) ≡ list_names m.exprs ++ list_names es = listed-both m.exprs es in
    let nodes : node_names F (m.plans ++ ns) ≡ node_names F m.plans ++ flat_map (node_all F) ns = of-nodes F (m.plans ++ ns) ∙ flat_map-append (node_all F) m.plans ns ∙ ap (λ x. x ++ flat_map (node_all F) ns) (sym (of-nodes F m.plans)) in
    omega (arith, ap (highest 0) names, highest-append (list_names (m.exprs ++ es)) (node_names F (m.plans ++ ns)), ap (highest 0) exprs, ap (highest 0) nodes, highest-append (list_names m.exprs) (list_names es), highest-append (node_names F m.plans) (flat_map (node_all F) ns), highest-append (list_names m.exprs) (node_names F m.plans))

-- the next number by the highest of all names
pub next-of : (m : Model) → next_number m ≡ suc (max 99999999 (highest 0 (book_names m)))
unfolding next_number
next-of m = ap suc (highest-from 99999999 (book_names m))

grown-numbers : (m m' : Model) (es : List Expr) (ns : List Node) (k : ℕ) → m'.functions ≡ m.functions → m'.exprs ≡ m.exprs ++ es → m'.plans ≡ m.plans ++ ns
    → next_number m ≤ k → highest 0 (list_names es) < k → highest 0 (flat_map (node_all m.functions) ns) < k → next_number m' ≤ k
grown-numbers m m' es ns k f e p h i j = omega (arith, next-of m, next-of m', grown-names m m' es ns f e p)

names-numbers : (m : Model) → highest 0 (book_names m) < next_number m
names-numbers m = omega (arith, next-of m)

list-numbers : (m : Model) → highest 0 (flat_map expr_names m.exprs) < next_number m
unfolding book_names
list-numbers m = omega (arith, names-numbers m, highest-append (list_names m.exprs) (node_names m.functions m.plans), ap (highest 0) (of-list m.exprs))

pub nodes-numbers : (m : Model) → highest 0 (flat_map (node_all m.functions) m.plans) < next_number m
unfolding book_names
nodes-numbers m = omega (arith, names-numbers m, highest-append (list_names m.exprs) (node_names m.functions m.plans), ap (highest 0) (of-nodes m.functions m.plans))

-- a node more that brings no name of its own
pub node-numbers : (t : Tables) (n : NewNode) (r : ℕ) (m' : Model) → plan_own (tree_for t n) ≡ [] → present t n ≡ true → NodeStored t n r m' → next_number m' ≤ next_number (model_of t)
unfolding list_names
node-numbers t n r m' none here s =
    let v = view_in t in
    let F = v.functions in
    let m = model_of t in
    let x : Node = record { tree = tree_for t n; origin = plan_count t } in
    let b = max 99999999 (highest 0 (book_names m)) in
    let own : highest 0 (plan_own x.tree) ≤ b = omega (arith, ap (highest 0) none, highest-none) in
    let known : highest 0 (flat_map expr_names v.trees) ≤ b = omega (arith, list-numbers m, next-of m) in
    let shown : highest 0 (flat_map (shown_name F) v.trees) ≤ b = omega (arith, all-shown-kept F v.trees t.terms.accepted) in
    let nodes : highest 0 (flat_map (node_all F) (nodes_of t)) ≤ b = omega (arith, nodes-numbers m, next-of m) in
    let names = names-below b v (plan_count t) (trees_in t) known (trees-below F b (nodes_of t) nodes) n own in
    let fields = fields-below b v (plan_count t) (trees_in t) F shown (trees-fields-below F b (nodes_of t) nodes) n own in
    let new : highest 0 (flat_map (node_all F) (x ∷ [])) ≤ b = both-below b (node_all F x) [] (both-below b (names_in (fields_of F x.tree)) (plan_names x.tree) fields names) (none-above b) in
    grown-numbers m m' [] (x ∷ []) (next_number m) s.functions (s.exprs ∙ sym (append-nil v.trees)) s.plans (omega arith) (omega (arith, next-of m, highest-none)) (omega (arith, next-of m))

-- an expression more, whose names have numbers below k
pub expr-numbers : (m m' : Model) (e : Expr) (k : ℕ) → m'.functions ≡ m.functions → m'.exprs ≡ m.exprs ++ e ∷ [] → m'.plans ≡ m.plans → next_number m ≤ k → highest 0 (expr_names e) < k → next_number m' ≤ k
unfolding list_names
expr-numbers m m' e k f es p h i =
    grown-numbers m m' (e ∷ []) [] k f es (p ∙ sym (append-nil m.plans)) h (omega (arith, highest-append (expr_names e) [], highest-none)) (omega (arith, highest-none))

-- an expression that is there
pub known-number : (m : Model) (i : ℕ) → i < length m.exprs → highest 0 (expr_names (expr_in m.exprs i)) < next_number m
known-number m i lt = omega (arith, list-numbers m, at-below (highest 0 (flat_map expr_names m.exprs)) expr_names no_expr (no-expr-below (highest 0 (flat_map expr_names m.exprs))) m.exprs i (omega arith))
