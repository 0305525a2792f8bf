-- A walk over a plan, node before inputs, and the first node that passes a test.
use Rattle.std.proofs.Common.{◌≡◌, ℕ, suc, ◌+◌, ◌<◌, Bool, true, false, List, [], ◌∷◌, ◌++◌, map, length, get_or, drop, Some, None, Option, sym, refl, ap, ◌∙◌, arith}
use Rattle.std.proofs.lemmas.List.{append-nil}
use Rattle.std.proofs.lemmas.Bool.{cond-true, cond-false, or_from}
use Rattle.table.proofs.Loops.{mapped-step}
use Rattle.plan.specs.Names.{Name}
use Rattle.plan.specs.Terms.{Field}
use Rattle.plan.specs.Plans.{Plan, Plans, further_inputs}
use Rattle.plan.specs.Plans.Plan.{table, projection, filter, sort, limit, aggregate, join, subquery_alias, union}
use Rattle.plan.specs.Plans.Plans.{done, also}
use Rattle.plan.specs.Fields.{any}
use Rattle.plan.specs.Model.{Model, no_plan, plan_in, plans_in, inputs_at, tree_at}
use Rattle.plan.specs.Calls.{union_of}
use Rattle.plan.specs.Swapping.{inputs_of, plan_list}
use Rattle.plan.specs.Tracing.{holds_alias, nodes_in, nodes_in_all, first, Traced}
use Rattle.terms.specs.Views.{View}
use Rattle.entries.specs.declared.node.PlanId.{PlanId}
use Rattle.tables.specs.Holding.{view_in, trees_in, fields_at, model_of, plan_count}
use Rattle.stored.specs.Stored.{build_plan_node, node_inputs, run_numbers}
use Rattle.looking.specs.Tracing.{found_plan, WalkedTo}
use Rattle.stored.specs.declared.node.PlanNode.{PlanNode}
use Rattle.stored.specs.declared.node.PlanNode.TheVariants.{Table, Projection, Filter, Sort, Limit, Aggregate, Join, SubqueryAlias, Union}
use Rattle.tables.specs.declared.tables.Tables.{Tables}
use Rattle.tables.proofs.Inputs.{NodeReads, node_at_lem, tree-at}

-- the nodes of some plans, one after the other
abbrev pub nodes_among : List Plan → List Plan
nodes_among [] = []
nodes_among (p ∷ ps) = nodes_in p ++ nodes_among ps

all_among : (is : Plans) → nodes_in_all is ≡ nodes_among (plan_list is)
all_among done = refl
all_among (also i is) = ap (λ l. nodes_in i ++ l) (all_among is)

-- a plan's nodes are itself and those of its inputs
one : (p i : Plan) → p ∷ nodes_in i ≡ p ∷ (nodes_in i ++ [])
one p i = ap (λ l. p ∷ l) (sym (append-nil (nodes_in i)))

pub nodes-split : (p : Plan) → nodes_in p ≡ p ∷ nodes_among (inputs_of p)
nodes-split (table k q ns) = refl
nodes-split (projection es i) = one (projection es i) i
nodes-split (filter e i) = one (filter e i) i
nodes-split (sort ks i) = one (sort ks i) i
nodes-split (limit s c i) = one (limit s c i) i
nodes-split (aggregate gs ts i) = one (aggregate gs ts i) i
nodes-split (join k cs l r) = ap (λ x. join k cs l r ∷ (nodes_in l ++ x)) (sym (append-nil (nodes_in r)))
nodes-split (subquery_alias q i) = one (subquery_alias q i) i
nodes-split (union i is) = ap (λ x. union i is ∷ (nodes_in i ++ x)) (all_among is)

-- the inputs of a node's tree are the trees of its inputs
further-back : (ps : List Plan) → plan_list (further_inputs ps) ≡ ps
further-back [] = refl
further-back (p ∷ ps) = ap (λ l. p ∷ l) (further-back ps)

union-inputs : (ps : List Plan) → inputs_of (union_of ps) ≡ ps
union-inputs [] = refl
union-inputs (p ∷ ps) = ap (λ l. p ∷ l) (further-back ps)

node-inputs : (v : View) (fs : List Field) (ts : List Plan) (n : PlanNode) → inputs_of (build_plan_node v fs ts n) ≡ plans_in ts (node_inputs v.entries n)
node-inputs v fs ts (Table k q) = refl
node-inputs v fs ts (Projection i l) = refl
node-inputs v fs ts (Filter i e) = refl
node-inputs v fs ts (Sort i l) = refl
node-inputs v fs ts (Limit i s c) = refl
node-inputs v fs ts (Aggregate i gs us) = refl
node-inputs v fs ts (Join j l r cs) = refl
node-inputs v fs ts (SubqueryAlias i n) = refl
node-inputs v fs ts (Union l) = union-inputs (plans_in ts (run_numbers v.entries l))

pub tree-inputs : (t : Tables) (p : ℕ) (n : PlanNode) → NodeReads t p n → inputs_of (tree_at (model_of t) p) ≡ plans_in (trees_in t) (inputs_at (model_of t) p)
tree-inputs t p n h =
    ap inputs_of (tree-at t p ∙ h.tree) ∙ node-inputs (view_in t) _ (trees_in t) n ∙ ap (plans_in (trees_in t)) (sym h.inputs)

-- what a node holds, by its record
pub holds_as : (t : Tables) (p : ℕ) (n : PlanNode) (name : Name) → NodeReads t p n → holds_alias name (tree_at (model_of t) p) ≡ holds_alias name (build_plan_node (view_in t) (fields_at t p) (trees_in t) n)
holds_as t p n name h = ap (holds_alias name) (tree-at t p ∙ h.tree)

-- a Union is no Projection
pub union-holds : (n : Name) (ps : List Plan) → holds_alias n (union_of ps) ≡ false
union-holds n [] = refl
union-holds n (p ∷ ps) = refl

-- the first that passes
module _ {A : Type 0} (test : A → Bool) where
  not_none : (x : A) (xs : List A) → test x ≡ true → first test (x ∷ xs) ≡ None → ⊥
  not_none x xs e h =
      let z : Some x ≡ None = sym (cond-true (test x) (Some x) (first test xs) e) ∙ h in
      let y : ◌≡◌ {A = ℕ} 0 1 = cc in
      omega arith

  skipped : (x : A) (xs : List A) → test x ≡ false → first test (x ∷ xs) ≡ first test xs
  skipped x xs e = cond-false (test x) (Some x) (first test xs) e

  pub first-later : (xs ys : List A) → first test xs ≡ None → first test (xs ++ ys) ≡ first test ys
  first-later [] ys h = refl
  first-later (x ∷ xs) ys h = go (test x) refl (first-later xs ys)
    where
      go : (b : Bool) → test x ≡ b → (first test xs ≡ None → first test (xs ++ ys) ≡ first test ys) → first test ((x ∷ xs) ++ ys) ≡ first test ys
      go true e ih = absurd (not_none x xs e h)
      go false e ih = skipped x (xs ++ ys) e ∙ ih (sym (skipped x xs e) ∙ h)

  pub first-here : (xs ys : List A) (a : A) → first test xs ≡ Some a → first test (xs ++ ys) ≡ Some a
  first-here [] ys a h = absurd (let y : ◌≡◌ {A = ℕ} 0 1 = cc in omega arith)
  first-here (x ∷ xs) ys a h = go (test x) refl (first-here xs ys a)
    where
      go : (b : Bool) → test x ≡ b → (first test xs ≡ Some a → first test (xs ++ ys) ≡ Some a) → first test ((x ∷ xs) ++ ys) ≡ Some a
      go true e ih = cond-true (test x) _ _ e ∙ sym (cond-true (test x) (Some x) (first test xs) e) ∙ h
      go false e ih = skipped x (xs ++ ys) e ∙ ih (sym (skipped x xs e) ∙ h)

  pub first-none : (xs : List A) → first test xs ≡ None → any test xs ≡ false
  first-none [] h = refl
  first-none (x ∷ xs) h = go (test x) refl (first-none xs)
    where
      go : (b : Bool) → test x ≡ b → (first test xs ≡ None → any test xs ≡ false) → any test (x ∷ xs) ≡ false
      go true e ih = absurd (not_none x xs e h)
      go false e ih = or_from _ _ e (ih (sym (skipped x xs e) ∙ h))

  -- it passes, and stands somewhere
  pub first_some : (xs : List A) (a d : A) → first test xs ≡ Some a → (test a ≡ true) × ((k : ℕ) × (k < length xs) × (get_or xs k d ≡ a))
  first_some [] a d h = absurd (let y : ◌≡◌ {A = ℕ} 0 1 = cc in omega arith)
  first_some (x ∷ xs) a d h = go (test x) refl (first_some xs a d)
    where
      go : (b : Bool) → test x ≡ b → (first test xs ≡ Some a → (test a ≡ true) × ((k : ℕ) × (k < length xs) × (get_or xs k d ≡ a)))
          → (test a ≡ true) × ((k : ℕ) × (k < length (x ∷ xs)) × (get_or (x ∷ xs) k d ≡ a))
      go true e ih =
          let z : Some x ≡ Some a = sym (cond-true (test x) (Some x) (first test xs) e) ∙ h in
          let y : x ≡ a = cc in
          (ap test (sym y) ∙ e, (0, omega arith, y))
      go false e ih = let r = ih (sym (skipped x xs e) ∙ h) in (r.0, (suc r.1.0, omega (arith, r.1.1), r.1.2))

-- one turn of the walk: the input x at k, with those before it done
module _ (t : Tables) (p k x : ℕ) (n : Name) (lt : k < length (inputs_at (model_of t) p)) (e : x ≡ get_or (inputs_at (model_of t) p) k 0) where
  abbrev trees : List Plan
  trees = map (plan_in (trees_in t)) (inputs_at (model_of t) p)

  turn : first (holds_alias n) (nodes_among (drop k trees)) ≡ first (holds_alias n) (nodes_in (tree_at (model_of t) x) ++ nodes_among (drop (k + 1) trees))
  turn =
      mapped-step (λ ps. first (holds_alias n) (nodes_among ps)) (plan_in (trees_in t)) (inputs_at (model_of t) p) k 0 lt
      ∙ ap (λ y. first (holds_alias n) (nodes_in y ++ nodes_among (drop (k + 1) trees))) (ap (plan_in (trees_in t)) (sym e) ∙ sym (tree-at t x))

  pub turn-found : (q : Plan) → first (holds_alias n) (nodes_in (tree_at (model_of t) x)) ≡ Some q → first (holds_alias n) (nodes_among (drop k trees)) ≡ Some q
  turn-found q h = turn ∙ first-here (holds_alias n) (nodes_in (tree_at (model_of t) x)) (nodes_among (drop (k + 1) trees)) q h

  pub turn_on : first (holds_alias n) (nodes_in (tree_at (model_of t) x)) ≡ None → first (holds_alias n) (nodes_among (drop k trees)) ≡ first (holds_alias n) (nodes_among (drop (k + 1) trees))
  turn_on h = turn ∙ first-later (holds_alias n) (nodes_in (tree_at (model_of t) x)) (nodes_among (drop (k + 1) trees)) h

-- a node that holds the alias, and one that does not
pub walk_here : (m : Model) (p : ℕ) (n : Name) → holds_alias n (tree_at m p) ≡ true → first (holds_alias n) (nodes_in (tree_at m p)) ≡ Some (tree_at m p)
walk_here m p n h = ap (first (holds_alias n)) (nodes-split (tree_at m p)) ∙ cond-true (holds_alias n (tree_at m p)) _ _ h

pub walk-on : (t : Tables) (p : ℕ) (n : Name) → p < plan_count t → holds_alias n (tree_at (model_of t) p) ≡ false → first (holds_alias n) (nodes_in (tree_at (model_of t) p)) ≡ first (holds_alias n) (nodes_among (map (plan_in (trees_in t)) (inputs_at (model_of t) p)))
walk-on t p n lt h =
    ap (first (holds_alias n)) (nodes-split (tree_at (model_of t) p)) ∙ cond-false (holds_alias n (tree_at (model_of t) p)) _ _ h
    ∙ ap (λ ps. first (holds_alias n) (nodes_among ps)) (tree-inputs t p _ (node_at_lem t p lt))

-- what the walk answers is what the call promises
pub walked : (m : Model) (i : ℕ) (n : Name) (a : Option PlanId) → WalkedTo m i n a → Traced m i n (found_plan a)
walked m i n None h = first-none (holds_alias n) (nodes_in (tree_at m i)) h
walked m i n (Some q) h =
    let r = first_some (holds_alias n) (nodes_in (tree_at m i)) (tree_at m q.0) no_plan h.1 in
    record { present = h.0; holds = r.0; under = record { place = r.1.0; inside = r.1.1; stands = r.1.2 }; topmost = h.1 }
