-- A node made anew from copied lists: its tree, its inputs and its outlay.
use Rattle.std.proofs.Common.{◌≡◌, ℕ, zero, suc, ◌+◌, ◌<◌, true, leb, List, [], ◌∷◌, ◌++◌, map, length, set, Ok, Err, Result, sym, refl, ap, ◌∙◌, subst, ap₂, arith}
use Rattle.std.proofs.lemmas.List.{length-map}
use Rattle.std.proofs.lemmas.Bool.{and_parts, and_from, leb-true, lt-ltb}
use Rattle.table.specs.Contents.{part}
use Rattle.table.proofs.Parts.{length_part}
use Rattle.plan.specs.Terms.{Expr}
use Rattle.plan.specs.Plans.{Plan, further_inputs}
use Rattle.plan.specs.Plans.Plan.{join, union}
use Rattle.plan.specs.Plans.Plans.{also}
use Rattle.plan.specs.Faults.{first_no}
use Rattle.plan.specs.Questions.{node_asked}
use Rattle.plan.specs.Model.{Model, exprs_in, plan_in, plans_in, fits, plus, inputs_at}
use Rattle.plan.specs.Calls.{node_outlay, below, all_below, union_of}
use Rattle.plan.specs.Swapping.{own_space, own_entries, own_bytes, count_inputs, swap_in, with_input, swap_tree}
use Rattle.plan.specs.declared.code.JoinKind.{JoinKind}
use Rattle.plan.specs.declared.fault.Fault.{Fault}
use Rattle.plan.specs.declared.fault.Question.TheVariants.{Space as SpaceQuestion}
use Rattle.entries.specs.Entries.{entry_number, expr_of, input_of}
use Rattle.terms.specs.Views.{View, numbers_of}
use Rattle.entries.specs.declared.node.Entry.{Entry}
use Rattle.entries.specs.declared.node.ExprId.{ExprId}
use Rattle.entries.specs.declared.node.PlanId.{PlanId}
use Rattle.stored.specs.Keys.{key_of}
use Rattle.tables.specs.Holding.{view_in, trees_in, tree_in, fields_at, model_of, plan_count}
use Rattle.stored.specs.Making.{new_key, key_numbers, input_numbers, tree_over, inputs_for, entries_for, bytes_for}
use Rattle.tables.specs.Making.{tree_for, outlay_for, node_questions, NodeMade}
use Rattle.swapping.specs.Remaking.{tree_asked, TreeMade}
use Rattle.stored.specs.Stored.{build_plan_node, node_inputs, key_at, run_in, run_numbers, run_exprs, run_keys, list_in}
use Rattle.entries.specs.declared.node.Run.{Run}
use Rattle.stored.specs.declared.node.PlanNode.{PlanNode}
use Rattle.stored.specs.declared.node.NewNode.{NewNode}
use Rattle.stored.specs.declared.node.NewNode.TheVariants.{Table, Projection, Filter, Sort, Limit, Aggregate, Join, SubqueryAlias, Union}
use Rattle.stored.specs.declared.node.SortKey.{SortKey}
use Rattle.tables.specs.declared.tables.Tables.{Tables}
use Rattle.asking.proofs.NodeFacts.{exprs-length}
use Rattle.tables.proofs.Inputs.{NodeReads, tree-at}

-- copies name what the entries name
expr-numbers : (es : List Entry) → numbers_of (map expr_of es) ≡ map entry_number es
expr-numbers [] = refl
expr-numbers (e ∷ es) = ap (λ l. entry_number e ∷ l) (expr-numbers es)

key-numbers : (es : List Entry) → key_numbers (map key_of es) ≡ map entry_number es
key-numbers [] = refl
key-numbers (e ∷ es) = ap (λ l. entry_number e ∷ l) (key-numbers es)

keys-same : (ts : List Expr) (es : List Entry) → map (new_key ts) (map key_of es) ≡ map (key_at ts) es
keys-same ts [] = refl
keys-same ts (e ∷ es) = ap (λ l. key_at ts e ∷ l) (keys-same ts es)

input-numbers : (es : List Entry) → input_numbers (map input_of es) ≡ map entry_number es
input-numbers [] = refl
input-numbers (e ∷ es) = ap (λ l. entry_number e ∷ l) (input-numbers es)

-- a list xs that was copied from the run l
module _ {X : Type 0} (v : View) (l : Run) (f : Entry → X) (xs : List X) (e : xs ≡ map f (part v.entries l.first l.count)) where
  pub copy-long : run_in v.entries l ≡ true → length xs ≡ l.count
  copy-long h = ap length e ∙ length-map (part v.entries l.first l.count) f ∙ length_part v.entries l.first l.count (leb-true _ _ h)

  pub copy-few : (n : ℕ) → run_in v.entries l ≡ true → leb l.count n ≡ true → leb (length xs) n ≡ true
  copy-few n h few = ap (λ k. leb k n) (copy-long h) ∙ few

module _ (v : View) (l : Run) (xs : List ExprId) (e : xs ≡ map expr_of (part v.entries l.first l.count)) where
  numbers-copied : numbers_of xs ≡ run_numbers v.entries l
  numbers-copied = ap numbers_of e ∙ expr-numbers (part v.entries l.first l.count)

  pub exprs-present : list_in v l ≡ true → all_below (length v.trees) (numbers_of xs) ≡ true
  exprs-present h = ap (all_below (length v.trees)) numbers-copied ∙ (and_parts (run_in v.entries l) _ h).1

  pub exprs-copied : exprs_in v.trees (numbers_of xs) ≡ run_exprs v l
  exprs-copied = ap (exprs_in v.trees) numbers-copied

module _ (v : View) (l : Run) (xs : List SortKey) (e : xs ≡ map key_of (part v.entries l.first l.count)) where
  pub keys-present : list_in v l ≡ true → all_below (length v.trees) (key_numbers xs) ≡ true
  keys-present h = ap (all_below (length v.trees)) (ap key_numbers e ∙ key-numbers (part v.entries l.first l.count)) ∙ (and_parts (run_in v.entries l) _ h).1

  pub keys-copied : map (new_key v.trees) xs ≡ run_keys v l
  keys-copied = ap (map (new_key v.trees)) e ∙ keys-same v.trees (part v.entries l.first l.count)

pub inputs-copied : (es : List Entry) (l : Run) (xs : List PlanId) → xs ≡ map input_of (part es l.first l.count) → input_numbers xs ≡ run_numbers es l
inputs-copied es l xs e = ap input_numbers e ∙ input-numbers (part es l.first l.count)

pub below_set : (n : ℕ) (is : List ℕ) (k j : ℕ) → j < n → all_below n is ≡ true → all_below n (set is k j) ≡ true
below_set n [] k j lt h = refl
below_set n (i ∷ is) zero j lt h = and_from _ _ (lt-ltb j n lt) (and_parts (below n i) (all_below n is) h).1
below_set n (i ∷ is) (suc k) j lt h =
    let p = and_parts (below n i) (all_below n is) h in
    and_from _ _ p.0 (below_set n is k j lt p.1)

-- a node that is not a Table takes the places that its tree says
abbrev pub NotTable : NewNode → Type 0
NotTable (Table q ns) = ⊥
NotTable (Projection i l) = Unit {0}
NotTable (Filter i e) = Unit {0}
NotTable (Sort i ks) = Unit {0}
NotTable (Limit i s c) = Unit {0}
NotTable (Aggregate i gs us) = Unit {0}
NotTable (Join k l r cs) = Unit {0}
NotTable (SubqueryAlias i n) = Unit {0}
NotTable (Union is) = Unit {0}

plans-counted : (ps : List Plan) → count_inputs (further_inputs ps) ≡ length ps
unfolding count_inputs
plans-counted [] = refl
plans-counted (p ∷ ps) = ap (λ n. 1 + n) (plans-counted ps) ∙ one (length ps)
  where
    one : (n : ℕ) → 1 + n ≡ suc n
    one n = omega arith

union-entries : (ps : List Plan) → own_entries (union_of ps) ≡ length ps
unfolding own_entries
union-entries [] = refl
union-entries (p ∷ ps) = ap (λ n. 1 + n) (plans-counted ps) ∙ one (length ps)
  where
    one : (n : ℕ) → 1 + n ≡ suc n
    one n = omega arith

union-bytes : (ps : List Plan) → own_bytes (union_of ps) ≡ 0
unfolding own_bytes
union-bytes [] = refl
union-bytes (p ∷ ps) = refl

own-entries : (v : View) (k : ℕ) (ts : List Plan) (n : NewNode) → NotTable n → entries_for n ≡ own_entries (tree_over v k ts n)
unfolding own_entries
own-entries v k ts (Table q ns) h = absurd h
own-entries v k ts (Projection i l) h = sym (exprs-length v.trees l.now)
own-entries v k ts (Filter i e) h = refl
own-entries v k ts (Sort i ks) h = sym (length-map ks.now (new_key v.trees))
own-entries v k ts (Limit i s c) h = refl
own-entries v k ts (Aggregate i gs us) h = ap₂ (λ a b. a + b) (sym (exprs-length v.trees gs.now)) (sym (exprs-length v.trees us.now))
own-entries v k ts (Join j l r cs) h = sym (exprs-length v.trees cs.now)
own-entries v k ts (SubqueryAlias i n) h = refl
own-entries v k ts (Union is) h =
    sym (union-entries (plans_in ts (input_numbers is.now)) ∙ length-map (input_numbers is.now) (plan_in ts) ∙ length-map is.now (λ p. p.0))

own-bytes : (v : View) (k : ℕ) (ts : List Plan) (n : NewNode) → NotTable n → bytes_for n ≡ own_bytes (tree_over v k ts n)
unfolding own_bytes
own-bytes v k ts (Table q ns) h = absurd h
own-bytes v k ts (Projection i l) h = refl
own-bytes v k ts (Filter i e) h = refl
own-bytes v k ts (Sort i ks) h = refl
own-bytes v k ts (Limit i s c) h = refl
own-bytes v k ts (Aggregate i gs us) h = refl
own-bytes v k ts (Join j l r cs) h = refl
own-bytes v k ts (SubqueryAlias i n) h = refl
own-bytes v k ts (Union is) h = sym (union-bytes (plans_in ts (input_numbers is.now)))

own-outlay : (t : Tables) (n : NewNode) → NotTable n → outlay_for t n ≡ own_space (view_in t).functions (tree_for t n)
unfolding own_space
own-outlay t n h =
    ap₂ (node_outlay (view_in t).functions (tree_for t n)) (own-entries (view_in t) (plan_count t) (trees_in t) n h) (own-bytes (view_in t) (plan_count t) (trees_in t) n h)

-- from what making a node promises to what making its tree does
module _ (t : Tables) (n : NewNode) (p : Plan) (is : List ℕ) (own : NotTable n) (tree : tree_for t n ≡ p) (ins : inputs_for n ≡ is) where
  costs : outlay_for t n ≡ own_space (view_in t).functions p
  costs = own-outlay t n own ∙ ap (own_space (view_in t).functions) tree

  same_asked : node_questions t n ≡ tree_asked (model_of t) p
  same_asked = ap₂ (λ x o. node_asked (view_in t).functions x ++ (SpaceQuestion, fits (model_of t).used o) ∷ []) tree costs

  pub made-anew : (r : Result PlanId Fault) (m : Model) → NodeMade t n r m → TreeMade (model_of t) p is r m
  made-anew (Ok x) m h = (
    sym (ap first_no same_asked) ∙ h.0,
    record {
      number = h.1.number;
      functions = h.1.functions;
      exprs = h.1.exprs;
      plans = h.1.plans ∙ ap (λ y. (model_of t).plans ++ record { tree = y; origin = plan_count t } ∷ []) tree;
      inputs = h.1.inputs ∙ ap (λ y. (model_of t).inputs ++ y ∷ []) ins;
      bytes = h.1.bytes;
      text = h.1.text;
      used = h.1.used ∙ ap (plus (model_of t).used) costs;
    },
  )
  made-anew (Err f) m h = (sym (ap first_no same_asked) ∙ h.0, h.1, h.2)

-- one input of a node replaced, on the tree and on the numbers
pub set-one : (i k j : ℕ) → k < 1 → set (i ∷ []) k j ≡ j ∷ []
set-one i zero j h = refl
set-one i (suc k) j h = absurd (omega arith)

pub set-left : (a b k j : ℕ) → k ≡ 0 → set (a ∷ b ∷ []) k j ≡ j ∷ b ∷ []
set-left a b zero j h = refl
set-left a b (suc k) j h = absurd (omega arith)

pub set-right : (a b k j : ℕ) → (k ≡ 0 → ⊥) → k < 2 → set (a ∷ b ∷ []) k j ≡ a ∷ j ∷ []
set-right a b zero j h lt = absurd (h refl)
set-right a b (suc zero) j h lt = refl
set-right a b (suc (suc k)) j h lt = absurd (omega arith)

pub join-left : (kind : JoinKind) (cs : List Expr) (l r p : Plan) (k : ℕ) → k ≡ 0 → with_input (join kind cs l r) k p ≡ join kind cs p r
join-left kind cs l r p zero h = refl
join-left kind cs l r p (suc k) h = absurd (omega arith)

pub join-right : (kind : JoinKind) (cs : List Expr) (l r p : Plan) (k : ℕ) → (k ≡ 0 → ⊥) → with_input (join kind cs l r) k p ≡ join kind cs l p
join-right kind cs l r p zero h = absurd (h refl)
join-right kind cs l r p (suc k) h = refl

swap-further : (ts : List Plan) (ns : List ℕ) (k j : ℕ) → further_inputs (plans_in ts (set ns k j)) ≡ swap_in (further_inputs (plans_in ts ns)) k (plan_in ts j)
swap-further ts [] k j = refl
swap-further ts (n ∷ ns) zero j = refl
swap-further ts (n ∷ ns) (suc k) j = ap (also (plan_in ts n)) (swap-further ts ns k j)

pub swap-union : (ts : List Plan) (ns : List ℕ) (k j : ℕ) → k < length ns → with_input (union_of (plans_in ts ns)) k (plan_in ts j) ≡ union_of (plans_in ts (set ns k j))
swap-union ts [] k j h = absurd (omega arith)
swap-union ts (n ∷ ns) zero j h = refl
swap-union ts (n ∷ ns) (suc k) j h = ap (union (plan_in ts n)) (sym (swap-further ts ns k j))

pub swap-made : (t : Tables) (p k j : ℕ) (n : PlanNode) (q : Plan) (is : List ℕ) → NodeReads t p n
    → with_input (build_plan_node (view_in t) (fields_at t p) (trees_in t) n) k (tree_in t j) ≡ q → set (node_inputs (view_in t).entries n) k j ≡ is
    → (r : Result PlanId Fault) (m : Model) → TreeMade (model_of t) q is r m → TreeMade (model_of t) (swap_tree (model_of t) p k j) (set (inputs_at (model_of t) p) k j) r m
swap-made t p k j n q is h tree ins r m x =
    let a : q ≡ swap_tree (model_of t) p k j = sym (ap₂ (λ y z. with_input y k z) (tree-at t p ∙ h.tree) (tree-at t j) ∙ tree) in
    let b : is ≡ set (inputs_at (model_of t) p) k j = sym (ap (λ l. set l k j) h.inputs ∙ ins) in
    subst (λ y. TreeMade (model_of t) (swap_tree (model_of t) p k j) y r m) b (subst (λ y. TreeMade (model_of t) y is r m) a x)
