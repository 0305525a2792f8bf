-- Making a node as a step.
use Rattle.std.proofs.Common.{◌≡◌, ℕ, zero, suc, ◌+◌, ◌<◌, ◌≤◌, Bool, true, false, ltb, not, T, ◌⊎◌, cond, List, [], ◌∷◌, ◌++◌, length, get_or, Ok, Err, Some, None, Option, Result, inl, inr, sym, refl, ap, ◌∙◌, subst, append-nil, length-append, arith, ltb→lt, nltb→le}
use lib.ListN.{get_or-append}
use Rattle.std.proofs.lemmas.Bool.{and_parts, ltb-true}
use Rattle.std.proofs.lemmas.List.{get_or_at, length_push}
use Rattle.plan.specs.Calls.{below}
use Rattle.plan.specs.Faults.{Asked, fault, first_no}
use Rattle.plan.specs.Functions.{Functions}
use Rattle.plan.specs.Model.{Model, Node, Space, Within, count_of, fits, no_node, plus, tree_at}
use Rattle.plan.specs.Plans.{Plan}
use Rattle.plan.specs.Questions.{node_asked}
use Rattle.plan.specs.Swapping.{own_space}
use Rattle.plan.specs.declared.fault.Fault.{Fault}
use Rattle.plan.specs.declared.fault.Question.{Question}
use Rattle.plan.specs.declared.fault.Question.TheVariants.{Space as SpaceQuestion}
use Rattle.plan.specs.declared.fault.Stage.{Stage}
use Rattle.rows.specs.Standing.{Good, Passed}
use Rattle.extracting.proofs.Spaces.{no-room, within-plus, within-then}
use Rattle.rewriting.proofs.Building.{all_yes, first-yes, passed}
use Rattle.rewriting.specs.Book.{spent_by}
use Rattle.rewriting.specs.Extracting.{Outcome, built, made, made_if, refused}
use Rattle.numbering.proofs.Kept.{node-numbers}
use Rattle.numbering.proofs.Places.{plan_own}
use Rattle.rewriting.specs.Outlay.{Tally, charged}
use Rattle.swapping.proofs.Remade.{NotTable, made-anew}
use Rattle.swapping.specs.Remaking.{TreeMade, TreeStored, tree_asked}
use Rattle.tables.proofs.Inputs.{tree-at}
use Rattle.tables.specs.Holding.{model_of, plan_count, tree_in, view_in}
use Rattle.stored.specs.Making.{inputs_for}
use Rattle.tables.specs.Making.{NodeMade, present, tree_for}
use Rattle.stored.specs.declared.node.NewNode.{NewNode}
use Rattle.stored.specs.declared.node.NewNode.TheVariants.{Table, Projection, Filter, Sort, Limit, Aggregate, Join, SubqueryAlias, Union}
use Rattle.tables.specs.declared.tables.Tables.{Tables}
use Rattle.entries.specs.declared.node.PlanId.{PlanId}
use Rattle.stepping.proofs.Chain.{at-most-same}
use Rattle.stepping.specs.Steps.{AllGood, Buildable, Extends, NoSpace, Start, Steps, Stood}

no-table : (t : Tables) (n : NewNode) → Buildable t n → NotTable n
no-table t (Table q ns) b = absurd b
no-table t (Projection i l) b = tt
no-table t (Filter i e) b = tt
no-table t (Sort i ks) b = tt
no-table t (Limit i s c) b = absurd b
no-table t (Aggregate i gs us) b = tt
no-table t (Join k l r cs) b = tt
no-table t (SubqueryAlias i n) b = absurd b
no-table t (Union is) b = absurd b

no-name : (t : Tables) (n : NewNode) → Buildable t n → plan_own (tree_for t n) ≡ []
no-name t (Table q ns) b = absurd b
no-name t (Projection i l) b = refl
no-name t (Filter i e) b = refl
no-name t (Sort i ks) b = refl
no-name t (Limit i s c) b = absurd b
no-name t (Aggregate i gs us) b = refl
no-name t (Join k l r cs) b = refl
no-name t (SubqueryAlias i n) b = absurd b
no-name t (Union is) b = absurd b

module _ (t : Tables) (good : AllGood (model_of t)) where
  good-in : (i : ℕ) → below (plan_count t) i ≡ true → Good (view_in t).functions (tree_in t i)
  good-in i h = subst (Good (view_in t).functions) (tree-at t i) (good i (ltb-true i (plan_count t) h))

  good-made : (n : NewNode) → Buildable t n → present t n ≡ true → Passed (view_in t).functions (tree_for t n) → Good (view_in t).functions (tree_for t n)
  good-made (Table q ns) b p a = absurd b
  good-made (Projection i l) b p a = (a, good-in i.0 (and_parts (below (plan_count t) i.0) _ p).0)
  good-made (Filter i e) b p a = (a, good-in i.0 (and_parts (below (plan_count t) i.0) _ p).0)
  good-made (Sort i ks) b p a = (a, good-in i.0 (and_parts (below (plan_count t) i.0) _ p).0)
  good-made (Limit i s c) b p a = absurd b
  good-made (Aggregate i gs us) b p a = (a, good-in i.0 (and_parts (below (plan_count t) i.0) _ p).0, subst T (sym b) tt)
  good-made (Join k l r cs) b p a =
      let q = and_parts (below (plan_count t) l.0) (below (plan_count t) r.0) (and_parts _ _ p).0 in
      (a, good-in l.0 q.0, good-in r.0 q.1)
  good-made (SubqueryAlias i n) b p a = absurd b
  good-made (Union is) b p a = absurd b

-- one node more
module _ (m m' : Model) (p : Plan) (is : List ℕ) (r : ℕ) (s : TreeStored m p is r m') where
  abbrev new : Node
  new = record { tree = p; origin = count_of m }

  one-more : count_of m' ≡ count_of m + 1
  one-more = ap length s.plans ∙ length_push m.plans new ∙ omega arith

  pub tree-stored : tree_at m' r ≡ p
  tree-stored = ap (λ (x : Node). x.tree) (ap (λ (l : List Node). get_or l r no_node) s.plans ∙ get_or_at m.plans new [] no_node r (sym s.number))

  pub there-stored : r < count_of m'
  there-stored = omega (arith, one-more, s.number)

  pub extends-one : (AllGood m → Good m.functions p) → Extends m m'
  extends-one g = record {
    functions = s.functions;
    exprs = record { more = []; is = s.exprs ∙ sym (append-nil m.exprs) };
    text = record { more = s.bytes; is = s.text };
    inputs = record { more = is ∷ []; is = s.inputs };
    nodes = new ∷ [];
    plans = s.plans;
    origins = first;
    good = λ x. λ i lt. rw s.functions (each x i lt (ltb i (count_of m)) (λ t. ltb→lt i (count_of m) t) (λ t. nltb→le i (count_of m) t));
  }
    where
      first : (k : ℕ) → k < 1 → (get_or (new ∷ []) k no_node).origin ≡ count_of m + k
      first zero lt = omega arith
      first (suc k) lt = absurd (omega arith)

      each : AllGood m → (i : ℕ) → i < count_of m' → (d : Bool) → (T d → i < count_of m) → (T (not d) → count_of m ≤ i) → Good m.functions (tree_at m' i)
      each x i lt true f e = subst (λ (n : Node). Good m.functions n.tree) (sym (ap (λ (l : List Node). get_or l i no_node) s.plans ∙ get_or-append m.plans (new ∷ []) no_node i (f tt))) (x i (f tt))
      each x i lt false f e =
          let q : i ≡ r = (let o = one-more in let k = e tt in let j = s.number in omega arith) in
          subst (λ k. Good m.functions (tree_at m' k)) (sym q) (subst (Good m.functions) (sym tree-stored) (g x))

-- which questions decide
made-built : (F : Functions) (stage : Stage) (level : ℕ) (p : Plan) (n : Tally) → first_no (node_asked F p) ≡ None → made F stage level p n ≡ built p (charged (own_space F p) n)
unfolding made made_if
made-built F stage level p n h = ap (λ q. made_if q stage level p (charged (own_space F p) n)) h

made-refused : (F : Functions) (stage : Stage) (level : ℕ) (p : Plan) (n : Tally) (q : Question) → first_no (node_asked F p) ≡ Some q → made F stage level p n ≡ refused (fault q stage level) (charged (own_space F p) n)
unfolding made made_if
made-refused F stage level p n q h = ap (λ o. made_if o stage level p (charged (own_space F p) n)) h

made-spent : (F : Functions) (stage : Stage) (level : ℕ) (p : Plan) (n : Tally) → spent_by (made F stage level p n) ≡ plus n.spent (own_space F p)
unfolding made made_if charged
made-spent F stage level p n = go (first_no (node_asked F p))
  where
    go : (o : Option Question) → spent_by (made_if o stage level p (charged (own_space F p) n)) ≡ plus n.spent (own_space F p)
    go None = refl
    go (Some q) = refl

-- the question for space comes last
last-asked : (qs : List Asked) (b : Bool) (q : Question) → first_no (qs ++ (SpaceQuestion, b) ∷ []) ≡ Some q → (first_no qs ≡ Some q) ⊎ ((b ≡ false) × (q ≡ SpaceQuestion))
last-asked [] true q h = absurd (let z : ◌≡◌ {A = ℕ} 0 1 = cc in omega arith)
last-asked [] false q h = inr (refl, cc)
last-asked (a ∷ qs) b q h = go a.1 h (λ k. last-asked qs b q k)
  where
    go : (c : Bool) → cond c (first_no (qs ++ (SpaceQuestion, b) ∷ [])) (Some a.0) ≡ Some q → (first_no (qs ++ (SpaceQuestion, b) ∷ []) ≡ Some q → (first_no qs ≡ Some q) ⊎ ((b ≡ false) × (q ≡ SpaceQuestion)))
        → (cond c (first_no qs) (Some a.0) ≡ Some q) ⊎ ((b ≡ false) × (q ≡ SpaceQuestion))
    go true h k = k h
    go false h k = inl h

-- at another stage and level
abbrev pub moved : Stage → ℕ → Result PlanId Fault → Result PlanId Fault
moved stage level (Ok p) = Ok p
moved stage level (Err f) = Err (fault f.question stage level)

module _ (t u : Tables) (n : NewNode) (stage : Stage) (level : ℕ) (kind : Buildable t n) (there : present t n ≡ true) where
  abbrev F : Functions
  F = (view_in t).functions

  abbrev p : Plan
  p = tree_for t n

  pub made-step : (r : Result PlanId Fault) → NodeMade t n r (model_of u) → Steps (model_of t) 0 (made F stage level p) (moved stage level r) (model_of u)
  unfolding charged
  made-step (Ok r) a = λ v k s.
      let h = made-anew t n p (inputs_for n) (no-table t n kind) refl refl (Ok r) (model_of u) a in
      let yes = first-yes (node_asked F p) ((SpaceQuestion, fits (model_of t).used (own_space F p)) ∷ []) h.0 in (
        p,
        charged (own_space F p) k,
        made-built F stage level p k yes,
        omega arith,
        record {
          present = there-stored (model_of t) (model_of u) p (inputs_for n) r.0 h.1;
          tree = tree-stored (model_of t) (model_of u) p (inputs_for n) r.0 h.1;
          extends = extends-one (model_of t) (model_of u) p (inputs_for n) r.0 h.1 (λ g. good-made t g n kind there (passed F p (all_yes (node_asked F p) yes)));
          spent = within-then v k.spent (model_of t).used (own_space F p) (model_of u).used s.spent (within-plus _ _ _ h.1.used);
          numbers = omega (arith, node-numbers t n r.0 (model_of u) (no-name t n kind) there a.1, s.numbers);
        },
      )
  made-step (Err f) a = λ v k s.
      let h = made-anew t n p (inputs_for n) (no-table t n kind) refl refl (Err f) (model_of u) a in
      go v k s (last-asked (node_asked F p) _ f.question h.0)
    where
      go : (v : Space) (k : Tally) → Start (model_of t) 0 v k → (first_no (node_asked F p) ≡ Some f.question) ⊎ ((fits (model_of t).used (own_space F p) ≡ false) × (f.question ≡ SpaceQuestion))
          → ((j : Tally) × (made F stage level p k ≡ refused (fault f.question stage level) j)) ⊎ NoSpace v (made F stage level p k) (fault f.question stage level)
      go v k s (inl e) = inl (charged (own_space F p) k, made-refused F stage level p k f.question e)
      go v k s (inr e) = inr (e.1, ap (fits v) (made-spent F stage level p k) ∙ no-room v k.spent (model_of t).used (own_space F p) (plus k.spent (own_space F p)) s.spent (at-most-same (plus k.spent (own_space F p))) e.0)
