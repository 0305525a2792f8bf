-- From what the steps of an extract leave to what the book promises of it.
use Rattle.std.proofs.Common.{◌≡◌, ℕ, zero, suc, ◌+◌, ◌<◌, ◌≤◌, true, List, [], ◌∷◌, ◌++◌, map, length, get_or, set, sym, refl, ap, ◌∙◌, subst, ap₂, append_assoc, not-suc-le-zero, length-append, length-set, get_or-append-add, arith}
use Rattle.std.proofs.lemmas.Bool.{and_parts, ltb-true}
use Rattle.std.proofs.lemmas.List.{get_or_append_left, length-map, length_push, set_at}
use Rattle.std.specs.List.{AllByRecursion}
use Rattle.plan.specs.Calls.{all_below, below, union_of}
use Rattle.plan.specs.Calls.Answer.{made}
use Rattle.plan.specs.Functions.{Functions}
use Rattle.plan.specs.Model.{Model, Node, Space, Within, count_of, inputs_at, no_node, origin_at, plans_in, tree_at}
use Rattle.plan.specs.Plans.{Plan, fields_of, further_inputs}
use Rattle.plan.specs.Swapping.{inputs_of, plan_list}
use Rattle.plan.specs.Terms.{Field}
use Rattle.rows.specs.Standing.{Good}
use Rattle.rewriting.specs.Book.{Added, Helpers, Rewrites, Standing, spent_by}
use Rattle.rewriting.specs.Extracting.{Outcome, built}
use Rattle.rewriting.specs.Generated.{book_names, highest, list_names, next_number, node_names, plan_names}
use Rattle.rewriting.specs.Outlay.{Tally}
use Rattle.stepping.specs.Steps.{AllGood, Extends, Stood}
use Rattle.stored.specs.Stored.{build_plan_node, node_inputs, run_numbers}
use Rattle.stored.specs.declared.node.PlanNode.{PlanNode}
use Rattle.stored.specs.declared.node.PlanNode.TheVariants.{Aggregate, Filter, Join, Limit, Projection, Sort, SubqueryAlias, Table, Union}
use Rattle.tables.proofs.Held.{counted}
use Rattle.tables.proofs.Inputs.{NodeReads, inputs-below, node_at_lem, tree-at}
use Rattle.tables.specs.Holding.{fields_at, model_of, nodes_of, plan_count, trees_in, view_in}
use Rattle.tables.specs.Origins.{OriginGiven}
use Rattle.tables.specs.declared.tables.Tables.{Tables}
use Rattle.terms.specs.Views.{View}

-- a node stands on the nodes before it
further-listed : (ps : List Plan) → plan_list (further_inputs ps) ≡ ps
further-listed [] = refl
further-listed (p ∷ ps) = ap (λ l. p ∷ l) (further-listed ps)

union-inputs : (ps : List Plan) → inputs_of (union_of ps) ≡ ps
union-inputs [] = refl
union-inputs (p ∷ ps) = ap (λ l. p ∷ l) (further-listed ps)

inputs-built : (v : View) (fs : List Field) (ts : List Plan) (n : PlanNode) → inputs_of (build_plan_node v fs ts n) ≡ plans_in ts (node_inputs v.entries n)
inputs-built v fs ts (Table k q) = refl
inputs-built v fs ts (Projection i l) = refl
inputs-built v fs ts (Filter i e) = refl
inputs-built v fs ts (Sort i l) = refl
inputs-built v fs ts (Limit i s c) = refl
inputs-built v fs ts (Aggregate i gs us) = refl
inputs-built v fs ts (Join j l r cs) = refl
inputs-built v fs ts (SubqueryAlias i n) = refl
inputs-built v fs ts (Union l) = union-inputs (plans_in ts (run_numbers v.entries l))

all-lower : (k : ℕ) (is : List ℕ) → all_below k is ≡ true → AllByRecursion (λ i. i < k) is
all-lower k [] h = tt
all-lower k (i ∷ is) h =
    let q = and_parts (below k i) (all_below k is) h in
    (ltb-true i k q.0, all-lower k is q.1)

module _ (t : Tables) where
  trees-at : (is : List ℕ) → plans_in (trees_in t) is ≡ map (λ i. (get_or (nodes_of t) i no_node).tree) is
  trees-at [] = refl
  trees-at (i ∷ is) = ap₂ (λ p ps. p ∷ ps) (sym (tree-at t i)) (trees-at is)

  node-stands : (k : ℕ) (n : PlanNode) → NodeReads t k n → Standing (nodes_of t) k (inputs_at (model_of t) k) (tree_at (model_of t) k)
  node-stands k n h =
      let is = node_inputs (view_in t).entries n in
      let own : inputs_of (tree_at (model_of t) k) ≡ map (λ i. (get_or (nodes_of t) i no_node).tree) is =
      ap inputs_of (tree-at t k ∙ h.tree) ∙ inputs-built (view_in t) (fields_at t k) (trees_in t) n ∙ trees-at is in
      subst (λ ns. Standing (nodes_of t) k ns (tree_at (model_of t) k)) (sym h.inputs) (all-lower k is (inputs-below (view_in t) k n h.inside), own)

  pub standing : (k : ℕ) → k < plan_count t → Standing (model_of t).plans k (inputs_at (model_of t) k) (tree_at (model_of t) k)
  standing k lt = node-stands k _ (node_at_lem t k lt)

  pub inputs-counted : length (model_of t).inputs ≡ plan_count t
  inputs-counted = length-map t.plans (λ r. node_inputs (view_in t).entries r.node) ∙ sym (counted t)

-- where a node has another origin, the trees are the same, and so all names
origin-names : (F : Functions) (ns : List Node) (i o : ℕ) → node_names F (set ns i (record { tree = (get_or ns i no_node).tree; origin = o })) ≡ node_names F ns
unfolding node_names
origin-names F [] i o = refl
origin-names F (n ∷ ns) zero o = refl
origin-names F (n ∷ ns) (suc i) o = ap (λ l. map (λ f. f.name) (fields_of F n.tree) ++ (plan_names n.tree ++ l)) (origin-names F ns i o)

pub same-names : (m m' : Model) (i o : ℕ) → i < count_of m → OriginGiven m i o m' → next_number m' ≡ next_number m
unfolding next_number book_names
same-names m m' i o lt g =
    let nodes : node_names m'.functions m'.plans ≡ node_names m.functions m.plans = ap₂ node_names g.functions g.plans ∙ origin-names m.functions m.plans i o in
    ap (λ l. suc (highest 99999999 l)) (ap₂ (λ x y. x ++ y) (ap list_names g.exprs) nodes)

-- a list that is not empty has a last item
last-split : {X : Type 0} (xs : List X) → 0 < length xs → (ys : List X) × (x : X) × (xs ≡ ys ++ x ∷ [])
last-split [] lt = absurd (not-suc-le-zero lt)
last-split (x ∷ []) lt = ([], x, refl)
last-split (x ∷ y ∷ xs) lt =
    let h = last-split (y ∷ xs) (omega arith) in
    (x ∷ h.0, h.1, ap (λ l. x ∷ l) h.2)

all-from : {X : Type 0} (P : X → Type 0) (d : X) (xs : List X) → ((i : ℕ) → i < length xs → P (get_or xs i d)) → AllByRecursion P xs
all-from P d [] f = tt
all-from P d (x ∷ xs) f = (f 0 (omega arith), all-from P d xs (λ i lt. f (suc i) (omega arith)))

-- the node r is the last, behind those of s, and was given the origin o
module _ (s : Model) (t t' : Tables) (u : Space) (R : Plan) (r o : ℕ) (k : Tally)
    (good : AllGood s) (counts : length s.inputs ≡ count_of s) (stood : Stood s u R r k (model_of t)) (old : count_of s ≤ r) (last : r + 1 ≡ plan_count t) (given : OriginGiven (model_of t) r o (model_of t')) where
  abbrev m : Model
  m = model_of t

  abbrev m' : Model
  m' = model_of t'

  abbrev e : Extends s m
  e = stood.extends

  abbrev answer : Node
  answer = record { tree = R; origin = o }

  count-new : plan_count t ≡ count_of s + length e.nodes
  count-new = ap length e.plans ∙ length-append s.plans e.nodes

  count-same : plan_count t' ≡ plan_count t
  count-same = ap length given.plans ∙ length-set m.plans r (record { tree = tree_at m r; origin = o })

  inputs-new : length e.inputs.more ≡ length e.nodes
  inputs-new = let a = ap length e.inputs.is ∙ length-append s.inputs e.inputs.more in omega (arith, inputs-counted t, count-new, counts)

  nodes-last : (ns : List Node) × (x : Node) × (e.nodes ≡ ns ++ x ∷ [])
  nodes-last = last-split e.nodes (omega (arith, count-new, old, last))

  inputs-last : (ns : List (List ℕ)) × (is : List ℕ) × (e.inputs.more ≡ ns ++ is ∷ [])
  inputs-last = last-split e.inputs.more (omega (arith, count-new, inputs-new, old, last))

  nodes-long : length e.nodes ≡ length nodes-last.0 + 1
  nodes-long = ap length nodes-last.2 ∙ length_push nodes-last.0 nodes-last.1

  inputs-long : length e.inputs.more ≡ length inputs-last.0 + 1
  inputs-long = ap length inputs-last.2 ∙ length_push inputs-last.0 inputs-last.1

  place : r ≡ count_of s + length nodes-last.0
  place = omega (arith, count-new, nodes-long, last)

  -- one of the helpers
  helper-at : (j : ℕ) → j < length nodes-last.0 → get_or nodes-last.0 j no_node ≡ get_or e.nodes j no_node
  helper-at j lt = sym (ap (λ (l : List Node). get_or l j no_node) nodes-last.2 ∙ get_or_append_left nodes-last.0 (nodes-last.1 ∷ []) no_node j lt)

  node-behind : (j : ℕ) → get_or m.plans (count_of s + j) no_node ≡ get_or e.nodes j no_node
  node-behind j = ap (λ (l : List Node). get_or l (count_of s + j) no_node) e.plans ∙ get_or-append-add s.plans e.nodes j no_node

  helper-good : (j : ℕ) → j < length nodes-last.0 → Good s.functions (get_or nodes-last.0 j no_node).tree
  helper-good j lt =
      let all : Good m.functions (tree_at m (count_of s + j)) = e.good good (count_of s + j) (omega (arith, count-new, nodes-long)) in
      let here : Good s.functions (tree_at m (count_of s + j)) = subst (λ F. Good F (tree_at m (count_of s + j))) e.functions all in
      subst (λ (n : Node). Good s.functions n.tree) (node-behind j ∙ sym (helper-at j lt)) here

  helpers-there : Helpers s nodes-last.0 inputs-last.0
  helpers-there = record {
    long = omega (arith, nodes-long, inputs-long, inputs-new);
    origins = λ j lt. ap (λ (n : Node). n.origin) (helper-at j lt) ∙ e.origins j (omega (arith, nodes-long));
    good = all-from (λ n. Good s.functions n.tree) no_node nodes-last.0 helper-good;
  }

  plans-new : m'.plans ≡ s.plans ++ (nodes-last.0 ++ answer ∷ [])
  plans-new =
      let hs = nodes-last.0 in
      let x = nodes-last.1 in
      let all : m.plans ≡ (s.plans ++ hs) ++ x ∷ [] = e.plans ∙ ap (λ l. s.plans ++ l) nodes-last.2 ∙ sym (append_assoc s.plans hs (x ∷ [])) in
      let long : length (s.plans ++ hs) ≡ r = length-append s.plans hs ∙ sym place in
      given.plans ∙ ap (λ p. set m.plans r (record { tree = p; origin = o })) stood.tree ∙ ap (λ l. set l r answer) all
      ∙ set_at (s.plans ++ hs) x [] answer r long ∙ append_assoc s.plans hs (answer ∷ [])

  pub stood-added : Added s R o r m'
  stood-added = record {
    helpers = nodes-last.0;
    numbers = inputs-last.0;
    theirs = helpers-there;
    own = inputs-last.1;
    exprs = e.exprs.more;
    text = e.text.more;
    number = place;
    functions_same = given.functions ∙ e.functions;
    exprs_longer = given.exprs ∙ e.exprs.is;
    plans_longer = plans-new;
    inputs_longer = given.inputs ∙ e.inputs.is ∙ ap (λ l. s.inputs ++ l) inputs-last.2;
    text_longer = given.text ∙ e.text.is;
    stand = λ j le lt. standing t' j lt;
  }

-- and the call that asked for it rewrites the node i
pub stood-rewrites : (s : Model) (t t' : Tables) (R : Plan) (i r : ℕ) (o : Outcome) (k : Tally)
    → AllGood s → length s.inputs ≡ count_of s → i < count_of s → o ≡ built R k → Stood s s.used R r k (model_of t) → count_of s ≤ r → r + 1 ≡ plan_count t
    → OriginGiven (model_of t) r (origin_at s i) (model_of t') → Rewrites s i o (made r) (model_of t')
stood-rewrites s t t' R i r o k good counts here is stood old last given =
    let m' = model_of t' in
    let added = stood-added s t t' s.used R r (origin_at s i) k good counts stood old last given in
    let next : next_number m' ≤ k.next = subst (λ n. n ≤ k.next) (sym (same-names (model_of t) m' r (origin_at s i) stood.present given)) stood.numbers in
    let spent : Within s.used k.spent m'.used = subst (λ x. Within s.used k.spent x) (sym given.used) stood.spent in
    (here, (R, k, is, added, next), subst (λ x. Within s.used (spent_by x) m'.used) (sym is) spent)
