-- The law over lists of calls: each call keeps what the law says, since a new node has a new origin or is the same as one of its origin.
use Rattle.std.proofs.Common.{◌≡◌, ℕ, zero, suc, ◌+◌, ◌-◌, ◌<◌, ◌≤◌, Bool, true, false, not, T, ltb, ◌⊎◌, List, [], ◌∷◌, ◌++◌, map, length, get_or, set, None, Some, cond, append-nil, sym, refl, ap, ◌∙◌, subst, inl, inr, suc-le-suc, not-suc-le-zero, arith, eqb→eq, ltb→lt, nltb→le, length-append, get_or-append-add}
use lib.ListN.{get_or-append, length-map}
use lib.Seq.{get_or-append_seam, map-set}
use mir.Facts.{and_yes}
use Rattle.std.proofs.ByRecursion.{All-append, All-get_or, All-map, All-weaker}
use Rattle.std.specs.List.{AllByRecursion}
use Rattle.plan.specs.Calls.Answer.{made, refused, unchanged}
use Rattle.plan.specs.Calls.{Answer, Call, Made, asked, below, new_inputs, new_plans, new_trees}
use Rattle.plan.specs.Calls.Call.{make_aggregate, make_alias, make_call, make_filter, make_join, make_limit, make_literal, make_projection, make_reference, make_sort, make_subquery_alias, make_table, make_union}
use Rattle.plan.specs.Faults.{Asked, first_no, refusal}
use Rattle.plan.specs.declared.fault.Fault.{Fault}
use Rattle.plan.specs.declared.fault.Question.{Question}
use Rattle.plan.specs.declared.fault.Question.TheVariants.{Space as SpaceQuestion}
use Rattle.plan.specs.Functions.{Functions}
use Rattle.plan.specs.Model.{Model, Node, Space, fits, count_of, inputs_at, no_node, no_plan, node_at, origin_at, tree_at}
use Rattle.plan.specs.Names.{Name, number_of}
use Rattle.plan.specs.Plans.{Plan, fields_of}
use Rattle.plan.specs.Plans.Plan.{aggregate, filter, join, limit, projection, sort, subquery_alias, table, union}
use Rattle.plan.specs.Questions.{input_fields}
use Rattle.plan.specs.Terms.{Field}
use Rattle.rows.proofs.Congruence.{same_refl, same-sym, same-trans}
use Rattle.rows.proofs.Lists.{all_of_map, all_split}
use Rattle.rows.proofs.More.{get_or-map-in}
use Rattle.rows.specs.Standing.{Good, Same}
use Rattle.rewriting.proofs.Building.{Fine, StandAll, all_yes, built-fine, first-yes, passed}
use Rattle.rewriting.proofs.Extracts.{Keeping}
use Rattle.rewriting.proofs.Fresh.{highest-above}
use Rattle.rewriting.proofs.Laws.{good-resolved}
use Rattle.rewriting.proofs.Marked.{extract-leaves-nothing}
use Rattle.rewriting.proofs.PushKeeps.{push-keeps}
use Rattle.rewriting.proofs.Swapping.{inputs-swap, swap-good, swap-same}
use Rattle.rewriting.proofs.Totals.{extract-keeps}
use Rattle.plan.specs.Swapping.{SwapAnswers, Swapped, inputs_of, with_input}
use Rattle.rewriting.specs.Book.{Added, Agree, Answers, Law, Leaves, LooseAnswers, LooseRun, Request, Rewrites, Run, Standing, Step, SwapNoRoom, SwapRefused, build, extract, opened, push_down, swap, swap_asked, swap_outlay}
use Rattle.rewriting.specs.Extracting.{Outcome}
use Rattle.rewriting.specs.Generated.{book_names, list_names, next_number, node_names, plan_names}
use Rattle.rewriting.specs.Laws.{Gives}
use Rattle.rewriting.specs.Marked.{NothingLeft}
use Rattle.rewriting.specs.Outlay.{start_at}

-- what every call keeps
pub record Sound (s : Model) : Type 0 where
  pub good : AllByRecursion (λ n. Good s.functions n.tree) s.plans
  pub low : (i : ℕ) → i < count_of s → origin_at s i < count_of s
  pub alike : (i j : ℕ) → i < count_of s → j < count_of s → origin_at s i ≡ origin_at s j → Same s.functions (tree_at s i) (tree_at s j)
  pub long : length s.inputs ≡ count_of s
  pub stands : (i : ℕ) → i < count_of s → Standing s.plans i (inputs_at s i) (tree_at s i)

-- a node that is its own origin, or the same as a node of its origin
abbrev pub From : Model → ℕ → Node → Type 0
From s k n = (n.origin ≡ count_of s + k) ⊎ ((i : ℕ) × (i < count_of s) × (n.origin ≡ origin_at s i) × Same s.functions n.tree (tree_at s i))

-- a longer book
pub record Growth (s : Model) (nodes : List Node) (numbers : List (List ℕ)) (s' : Model) : Type 0 where
  pub functions : s'.functions ≡ s.functions
  pub plans : s'.plans ≡ s.plans ++ nodes
  pub inputs : s'.inputs ≡ s.inputs ++ numbers
  pub long : length numbers ≡ length nodes
  pub good : AllByRecursion (λ n. Good s.functions n.tree) nodes
  pub from : (k : ℕ) → k < length nodes → From s k (get_or nodes k no_node)
  pub stands : (k : ℕ) → count_of s ≤ k → k < count_of s' → Standing s'.plans k (inputs_at s' k) (tree_at s' k)

old-or-new : (n m i : ℕ) → i < n + m → (i < n) ⊎ ((k : ℕ) × (k < m) × (i ≡ n + k))
old-or-new n m i h = go (ltb i n) (λ t. ltb→lt i n t) (λ t. nltb→le i n t)
  where
    go : (b : Bool) → (T b → i < n) → (T (not b) → n ≤ i) → (i < n) ⊎ ((k : ℕ) × (k < m) × (i ≡ n + k))
    go true f g = inl (f tt)
    go false f g = let l = g tt in inr (i - n, omega arith, omega arith)

module _ (s s' : Model) (nodes : List Node) (numbers : List (List ℕ)) (kept : Sound s) (l : Growth s nodes numbers s') where
  abbrev F : Functions
  F = s.functions

  count-is : count_of s' ≡ count_of s + length nodes
  count-is = ap length l.plans ∙ length-append s.plans nodes

  old-node : (i : ℕ) → i < count_of s → node_at s' i ≡ node_at s i
  old-node i h = ap (λ (ns : List Node). get_or ns i no_node) l.plans ∙ get_or-append s.plans nodes no_node i h

  new-node : (k : ℕ) → node_at s' (count_of s + k) ≡ get_or nodes k no_node
  new-node k = ap (λ (ns : List Node). get_or ns (count_of s + k) no_node) l.plans ∙ get_or-append-add s.plans nodes k no_node

  old-inputs : (i : ℕ) → i < count_of s → inputs_at s' i ≡ inputs_at s i
  old-inputs i h =
      let q = kept.long in
      let b : i < length s.inputs = omega arith in
      ap (λ (ns : List (List ℕ)). get_or ns i []) l.inputs ∙ get_or-append s.inputs numbers [] i b

  -- one of the book's nodes, by its number: an old one, or a new one
  abbrev Cases : ℕ → Type 0
  Cases i = (i < count_of s) ⊎ ((k : ℕ) × (k < length nodes) × (i ≡ count_of s + k))

  cases : (i : ℕ) → i < count_of s' → Cases i
  cases i h = let c = count-is in old-or-new (count_of s) (length nodes) i (omega arith)

  low-new : (i : ℕ) → Cases i → origin_at s' i < count_of s'
  low-new i (inl h) =
      let c = count-is in
      let a = kept.low i h in
      let e = ap (λ (n : Node). n.origin) (old-node i h) in
      omega arith
  low-new i (inr t) = rw t.2 (go (l.from t.0 t.1))
    where
      go : From s t.0 (get_or nodes t.0 no_node) → origin_at s' (count_of s + t.0) < count_of s'
      go (inl p) = let c = count-is in let h = t.1 in let e = ap (λ (n : Node). n.origin) (new-node t.0) in omega arith
      go (inr q) = let c = count-is in let a = kept.low q.0 q.1 in let o = q.2 in let e = ap (λ (n : Node). n.origin) (new-node t.0) in omega arith

  -- the old node that a number goes back to, or itself
  abbrev Back : ℕ → Type 0
  Back i = ((j : ℕ) × (j < count_of s) × (origin_at s' i ≡ origin_at s j) × Same F (tree_at s' i) (tree_at s j)) ⊎ ((count_of s ≤ origin_at s' i) × (origin_at s' i ≡ i))

  back : (i : ℕ) → Cases i → Back i
  back i (inl h) = inl (i, h, ap (λ (n : Node). n.origin) (old-node i h), subst (λ (n : Node). Same F n.tree (tree_at s i)) (sym (old-node i h)) (same_refl (tree_at s i)))
  back i (inr t) = subst Back (sym t.2) (go (l.from t.0 t.1))
    where
      go : From s t.0 (get_or nodes t.0 no_node) → Back (count_of s + t.0)
      go (inl p) = let e = ap (λ (n : Node). n.origin) (new-node t.0) in inr (omega arith, omega arith)
      go (inr q) =
          inl (q.0, q.1, ap (λ (n : Node). n.origin) (new-node t.0) ∙ q.2, subst (λ (n : Node). Same F n.tree (tree_at s q.0)) (sym (new-node t.0)) q.3)

  alike-new : (i j : ℕ) → origin_at s' i ≡ origin_at s' j → Back i → Back j → Same F (tree_at s' i) (tree_at s' j)
  alike-new i j e (inl a) (inl b) = same-trans a.3 (same-trans (kept.alike a.0 b.0 a.1 b.1 (sym a.2 ∙ e ∙ b.2)) (same-sym b.3))
  alike-new i j e (inl a) (inr b) = let x = kept.low a.0 a.1 in let y = a.2 in let z = b.0 in absurd (omega arith)
  alike-new i j e (inr a) (inl b) = let x = kept.low b.0 b.1 in let y = b.2 in let z = a.0 in absurd (omega arith)
  alike-new i j e (inr a) (inr b) = let p : i ≡ j = (let x = a.1 in let y = b.1 in omega arith) in subst (λ (k : ℕ). Same F (tree_at s' i) (tree_at s' k)) p (same_refl (tree_at s' i))

  -- an old node stands on what it stood on
  trees-same : (i : ℕ) → i < count_of s → (ns : List ℕ) → AllByRecursion (λ k. k < i) ns
      → map (λ k. (get_or s.plans k no_node).tree) ns ≡ map (λ k. (get_or s'.plans k no_node).tree) ns
  trees-same i h [] a = refl
  trees-same i h (n ∷ ns) a =
      let b = a.0 in
      let p = ap (λ (n : Node). n.tree) (old-node n (omega arith)) in
      let q = trees-same i h ns a.1 in
      cc

  stands-old : (i : ℕ) → i < count_of s → Standing s'.plans i (inputs_at s' i) (tree_at s' i)
  stands-old i h =
      let a = kept.stands i h in
      subst (λ (ns : List ℕ). Standing s'.plans i ns (tree_at s' i)) (sym (old-inputs i h))
      (subst (λ (n : Node). Standing s'.plans i (inputs_at s i) n.tree) (sym (old-node i h)) (a.0, a.1 ∙ trees-same i h (inputs_at s i) a.0))

  stands-new : (i : ℕ) → i < count_of s' → Cases i → Standing s'.plans i (inputs_at s' i) (tree_at s' i)
  stands-new i h (inl a) = stands-old i a
  stands-new i h (inr t) = let e = t.2 in l.stands i (omega arith) h

  pub kept-longer : Sound s'
  kept-longer = record {
    good = rw (l.functions, l.plans) (All-append _ s.plans nodes kept.good l.good);
    low = λ i h. low-new i (cases i h);
    alike = λ i j h k e. rw l.functions (alike-new i j e (back i (cases i h)) (back j (cases j k)));
    long = ap length l.inputs ∙ length-append s.inputs numbers ∙ (let a = kept.long in let b = l.long in let c = count-is in omega arith);
    stands = λ i h. stands-new i h (cases i h);
  }

pub kept-none : (F : Functions) (text : List ℕ) (used : Space) → Sound (opened F text used)
kept-none F text used = record {
  good = tt;
  low = λ i h. absurd (not-suc-le-zero h);
  alike = λ i j h k e. absurd (not-suc-le-zero h);
  long = refl;
  stands = λ i h. absurd (not-suc-le-zero h);
}

-- what an answer adds
added-longer : (s s' : Model) (R : Plan) (i r : ℕ) → i < count_of s → Good s.functions R → Same s.functions R (tree_at s i) → (a : Added s R (origin_at s i) r s')
    → Growth s (a.helpers ++ record { tree = R; origin = origin_at s i } ∷ []) (a.numbers ++ a.own ∷ []) s'
added-longer s s' R i r h g e a = record {
  functions = a.functions_same;
  plans = a.plans_longer;
  inputs = a.inputs_longer;
  long = length-append a.numbers (a.own ∷ []) ∙ (let x = a.theirs.long in let y = length-append a.helpers (record { tree = R; origin = origin_at s i } ∷ []) in omega arith);
  good = All-append _ a.helpers (record { tree = R; origin = origin_at s i } ∷ []) a.theirs.good (g, tt);
  from = λ k l. last k (old-or-new (length a.helpers) 1 k (rw (length-append a.helpers (record { tree = R; origin = origin_at s i } ∷ [])) at l));
  stands = a.stand;
}
  where
    node : Node
    node = record { tree = R; origin = origin_at s i }

    last : (k : ℕ) → (k < length a.helpers) ⊎ ((j : ℕ) × (j < 1) × (k ≡ length a.helpers + j)) → From s k (get_or (a.helpers ++ node ∷ []) k no_node)
    last k (inl l) = inl (ap (λ (n : Node). n.origin) (get_or-append a.helpers (node ∷ []) no_node k l) ∙ a.theirs.origins k l)
    last k (inr (zero, l, p)) =
        let q : get_or (a.helpers ++ node ∷ []) k no_node ≡ node = ap (λ (j : ℕ). get_or (a.helpers ++ node ∷ []) j no_node) p ∙ get_or-append-add a.helpers (node ∷ []) 0 no_node in
        inr (i, h, ap (λ (n : Node). n.origin) q, subst (λ (n : Node). Same s.functions n.tree (tree_at s i)) (sym q) e)
    last k (inr (suc j, l, p)) = absurd (omega arith)

-- one node more, which stands on nodes that are there
module _ (s s' : Model) (n : Node) (ns : List ℕ) (long : length s.inputs ≡ count_of s) (x : s'.plans ≡ s.plans ++ n ∷ []) (y : s'.inputs ≡ s.inputs ++ ns ∷ []) where
  trees-are : (ks : List ℕ) → AllByRecursion (λ k. k < count_of s) ks → map (tree_at s) ks ≡ map (λ k. (get_or s'.plans k no_node).tree) ks
  trees-are [] h = refl
  trees-are (k ∷ ks) h =
      let p : get_or s'.plans k no_node ≡ node_at s k = ap (λ (l : List Node). get_or l k no_node) x ∙ get_or-append s.plans (n ∷ []) no_node k h.0 in
      let q = trees-are ks h.1 in
      let r = ap (λ (n : Node). n.tree) p in
      cc

  one-stands : AllByRecursion (λ k. k < count_of s) ns → inputs_of n.tree ≡ map (tree_at s) ns → (j : ℕ) → count_of s ≤ j → j < count_of s' → Standing s'.plans j (inputs_at s' j) (tree_at s' j)
  one-stands h e j c d =
      let m = ap length x ∙ length-append s.plans (n ∷ []) in
      let z : j ≡ count_of s + 0 = omega arith in
      let z' : j ≡ length s.inputs + 0 = omega arith in
      let t : tree_at s' j ≡ n.tree = ap (λ (n : Node). n.tree) (ap (λ (i : ℕ). get_or s'.plans i no_node) z ∙ ap (λ (l : List Node). get_or l (count_of s + 0) no_node) x ∙ get_or-append-add s.plans (n ∷ []) 0 no_node) in
      let u : inputs_at s' j ≡ ns = ap (λ (i : ℕ). get_or s'.inputs i []) z' ∙ ap (λ (l : List (List ℕ)). get_or l (length s.inputs + 0) []) y ∙ get_or-append-add s.inputs (ns ∷ []) 0 [] in
      subst (λ (l : List ℕ). Standing s'.plans j l (tree_at s' j)) (sym u) (subst (λ (q : Plan). Standing s'.plans j ns q) (sym t) (
        All-weaker _ _ (λ k l. omega arith) ns h,
        e ∙ trees-are ns h,
      ))

-- a building call adds a node that is its own origin, or none
built-longer : (s s' : Model) (c : Call) (r : ℕ) → Sound s → Made s c r s' → Growth s (new_plans s c) (new_inputs c) s'
built-longer s s' c r k m = record {
  functions = m.functions;
  plans = m.plans;
  inputs = m.inputs;
  long = same-long (new_trees s c) (new_inputs c) fine.1 ∙ sym (length-map (new_trees s c) _);
  good = All-map _ _ (new_trees s c) fine.0;
  from = λ j l. inl (own (new_trees s c) (one-new c) j l);
  stands = λ j a b. stand (new_trees s c) (new_inputs c) fine.1 (one-new c) m.plans m.inputs j a b;
}
  where
    fine : Fine s k.good c
    fine = built-fine s k.good c (first-yes (asked s c) _ m.accepted)

    as_node : Plan → Node
    as_node p = record { tree = p; origin = count_of s }

    same-long : (ps : List Plan) (nss : List (List ℕ)) → StandAll s k.good ps nss → length nss ≡ length ps
    same-long [] [] h = refl
    same-long [] (ns ∷ nss) h = absurd h
    same-long (p ∷ ps) [] h = absurd h
    same-long (p ∷ ps) (ns ∷ nss) h = ap suc (same-long ps nss h.1)

    -- at most one node
    one-new : (c : Call) → length (new_trees s c) ≤ 1
    one-new (make_literal v) = omega arith
    one-new (make_reference f) = omega arith
    one-new (make_alias x f) = omega arith
    one-new (make_call n es) = omega arith
    one-new (make_table q ns) = omega arith
    one-new (make_projection i es) = omega arith
    one-new (make_filter i x) = omega arith
    one-new (make_sort i ks) = omega arith
    one-new (make_limit i x y) = omega arith
    one-new (make_aggregate i gs ts) = omega arith
    one-new (make_join x y z cs) = omega arith
    one-new (make_subquery_alias i n) = omega arith
    one-new (make_union is) = omega arith

    own : (ps : List Plan) → length ps ≤ 1 → (j : ℕ) → j < length (map as_node ps) → (get_or (map as_node ps) j no_node).origin ≡ count_of s + j
    own [] b j l = absurd (not-suc-le-zero l)
    own (p ∷ []) b zero l = omega arith
    own (p ∷ []) b (suc j) l = absurd (omega arith)
    own (p ∷ q ∷ ps) b j l = absurd (omega arith)

    stand : (ps : List Plan) (nss : List (List ℕ)) → StandAll s k.good ps nss → length ps ≤ 1 → s'.plans ≡ s.plans ++ map as_node ps → s'.inputs ≡ s.inputs ++ nss
        → (j : ℕ) → count_of s ≤ j → j < count_of s' → Standing s'.plans j (inputs_at s' j) (tree_at s' j)
    stand [] nss h b x y j c d = let n = ap length x ∙ length-append s.plans [] in absurd (omega arith)
    stand (p ∷ []) [] h b x y j c d = absurd h
    stand (p ∷ []) (ns ∷ []) h b x y j c d = one-stands s s' (as_node p) ns k.long x y h.0.0 h.0.1 j c d
    stand (p ∷ []) (ns ∷ ms ∷ nss) h b x y j c d = absurd h.1
    stand (p ∷ q ∷ ps) nss h b x y j c d = absurd (omega arith)

-- the inputs of a node are nodes of the book
input-is : (s : Model) (i k : ℕ) → Sound s → i < count_of s → k < length (inputs_at s i) → (get_or (inputs_at s i) k 0 < i) × (get_or (inputs_of (tree_at s i)) k no_plan ≡ tree_at s (get_or (inputs_at s i) k 0))
input-is s i k kept h l =
    let a = kept.stands i h in
    (All-get_or (λ j. j < i) (inputs_at s i) k 0 l a.0, ap (λ (ps : List Plan). get_or ps k no_plan) a.1 ∙ get_or-map-in (tree_at s) (inputs_at s i) k no_plan 0 l)

good-node : (s : Model) → Sound s → (i : ℕ) → i < count_of s → Good s.functions (tree_at s i)
good-node s kept i h = All-get_or (λ n. Good s.functions n.tree) s.plans i no_node h kept.good

-- a swap adds a node that is the same as the one asked about
swap-kept : (s s' : Model) (i k j r : ℕ) → Sound s → first_no (swap_asked s i k j) ≡ None → Added s (with_input (tree_at s i) k (tree_at s j)) (origin_at s i) r s' → Sound s'
swap-kept s s' i k j r kept p a =
    let h = all_yes (swap_asked s i k j) p in
    let b = and_yes (below (count_of s) i) (below (count_of s) j) h.0 in
    let hi : i < count_of s = ltb→lt i (count_of s) b.0 in
    let hj : j < count_of s = ltb→lt j (count_of s) b.1 in
    let hk : k < length (inputs_at s i) = ltb→lt k (length (inputs_at s i)) h.1.0 in
    let t = input-is s i k kept hi hk in
    let o = eqb→eq (origin_at s (get_or (inputs_at s i) k 0)) (origin_at s j) h.1.1.0 in
    let tl = t.0 in
    let e : Same s.functions (tree_at s j) (get_or (inputs_of (tree_at s i)) k no_plan) = rw t.1 (kept.alike j (get_or (inputs_at s i) k 0) hj (omega arith) (sym o)) in
    let w : length (inputs_of (tree_at s i)) ≡ length (inputs_at s i) = ap length (kept.stands i hi).1 ∙ length-map (inputs_at s i) _ in
    let l : k < length (inputs_of (tree_at s i)) = omega arith in
    let g = swap-good s.functions (tree_at s i) k (tree_at s j) l e (good-node s kept i hi) (good-node s kept j hj) (passed s.functions _ h.1.1.1) in
    kept-longer s s' _ _ kept (added-longer s s' _ i r hi g (swap-same s.functions (tree_at s i) k (tree_at s j) l e) a)

-- what a swap answers and leaves, as far as a loose one tells
swap-adds : (s s' : Model) (i k j r : ℕ) → Sound s → Swapped s i k j r s' → Added s (with_input (tree_at s i) k (tree_at s j)) (origin_at s i) r s'
swap-adds s s' i k j r kept a = record {
  helpers = [];
  numbers = [];
  theirs = record { long = refl; origins = λ n z. absurd (not-suc-le-zero z); good = tt };
  own = set (inputs_at s i) k j;
  exprs = [];
  text = a.bytes;
  number = let n = a.number in omega arith;
  functions_same = a.functions;
  exprs_longer = a.exprs ∙ sym (append-nil s.exprs);
  plans_longer = a.plans;
  inputs_longer = a.inputs;
  text_longer = a.text;
  stand = one-stands s s' new (set (inputs_at s i) k j) kept.long a.plans a.inputs (all_set (inputs_at s i) k (All-weaker _ _ (λ n l. omega (arith, hi)) (inputs_at s i) (kept.stands i hi).0)) stood;
}
  where
    h : AllByRecursion (λ q. T q.1) (swap_asked s i k j)
    h = all_yes (swap_asked s i k j) (first-yes (swap_asked s i k j) ((SpaceQuestion, fits s.used (swap_outlay s i k j)) ∷ []) a.accepted)

    b : T (below (count_of s) i) × T (below (count_of s) j)
    b = and_yes (below (count_of s) i) (below (count_of s) j) h.0

    hi : i < count_of s
    hi = ltb→lt i (count_of s) b.0

    hj : j < count_of s
    hj = ltb→lt j (count_of s) b.1

    hk : k < length (inputs_at s i)
    hk = ltb→lt k (length (inputs_at s i)) h.1.0

    new : Node
    new = record { tree = with_input (tree_at s i) k (tree_at s j); origin = origin_at s i }

    l : k < length (inputs_of (tree_at s i))
    l = let hl = hk in let w = ap length (kept.stands i hi).1 ∙ length-map (inputs_at s i) _ in omega arith

    all_set : (ns : List ℕ) (n : ℕ) → AllByRecursion (λ x. x < count_of s) ns → AllByRecursion (λ x. x < count_of s) (set ns n j)
    all_set [] n q = tt
    all_set (x ∷ xs) zero q = (hj, q.1)
    all_set (x ∷ xs) (suc n) q = (q.0, all_set xs n q.1)

    stood : inputs_of new.tree ≡ map (tree_at s) (set (inputs_at s i) k j)
    stood =
        inputs-swap (tree_at s i) k (tree_at s j) l ∙ ap (λ (ps : List Plan). set ps k (tree_at s j)) (kept.stands i hi).1 ∙ sym (map-set (tree_at s) (inputs_at s i) k j)

-- the last of the questions is the one that was answered no, or an earlier one
last-no : (qs : List Asked) (q q' : Question) (b : Bool) → first_no (qs ++ (q, b) ∷ []) ≡ Some q' → (first_no qs ≡ Some q') ⊎ ((first_no qs ≡ None) × (b ≡ false) × (q' ≡ q))
last-no [] q q' true p = let z : ◌≡◌ {A = ℕ} 0 1 = cc in absurd (omega arith)
last-no [] q q' false p = let e : q' ≡ q = cc in inr (refl, refl, e)
last-no (a ∷ qs) q q' b p = go a.1 p (λ t. last-no qs q q' b t)
  where
    go : (c : Bool) → cond c (first_no (qs ++ (q, b) ∷ [])) (Some a.0) ≡ Some q'
        → (first_no (qs ++ (q, b) ∷ []) ≡ Some q' → (first_no qs ≡ Some q') ⊎ ((first_no qs ≡ None) × (b ≡ false) × (q' ≡ q)))
        → (cond c (first_no qs) (Some a.0) ≡ Some q') ⊎ ((cond c (first_no qs) (Some a.0) ≡ None) × (b ≡ false) × (q' ≡ q))
    go true t f = f t
    go false t f = inl t

swap-refuses : (s : Model) (i k j : ℕ) (f : Fault) → (first_no (swap_asked s i k j) ≡ Some f.question) ⊎ ((first_no (swap_asked s i k j) ≡ None) × (fits s.used (swap_outlay s i k j) ≡ false) × (f.question ≡ SpaceQuestion))
    → f ≡ refusal f.question → SwapRefused s i k j f ⊎ SwapNoRoom s i k j f
swap-refuses s i k j f (inl p) e = inl (p, e)
swap-refuses s i k j f (inr p) e = inr (p.0, p.1, subst (λ q. f ≡ refusal q) p.2 e)

swap-loose : (s s' : Model) (i k j : ℕ) (a : Answer) → Sound s → SwapAnswers s i k j a s' → LooseAnswers s (swap i k j) a s'
unfolding swap-adds
swap-loose s s' i k j (made r) kept a = (
  first-yes (swap_asked s i k j) ((SpaceQuestion, fits s.used (swap_outlay s i k j)) ∷ []) a.accepted,
  (swap-adds s s' i k j r kept a, refl),
  record {
    exprs = let e = ap (λ (u : Space). u.exprs) a.used in omega arith;
    plans = let e = ap (λ (u : Space). u.plans) a.used in omega arith;
    entries = let e = ap (λ (u : Space). u.entries) a.used in omega arith;
    fields = let e = ap (λ (u : Space). u.fields) a.used in omega arith;
    bytes = let e = ap (λ (u : Space). u.bytes) a.used in omega arith;
  },
)
swap-loose s s' i k j unchanged kept a = absurd a
swap-loose s s' i k j (refused f) kept a = (a.2, swap-refuses s i k j f (last-no (swap_asked s i k j) SpaceQuestion f.question (fits s.used (swap_outlay s i k j)) a.0) a.1)

pub step-loose : (s s' : Model) (c : Request) (a : Answer) → Sound s → Answers s c a s' → LooseAnswers s c a s'
step-loose s s' (build c) a kept t = t
step-loose s s' (extract i) a kept t = t
step-loose s s' (push_down i) a kept t = t
step-loose s s' (swap i k j) a kept t = swap-loose s s' i k j a kept t

rewrite-kept : (s s' : Model) (i : ℕ) (o : Outcome) (a : Answer) → Sound s → (i < count_of s → Gives (Keeping s.functions (tree_at s i)) o) → Rewrites s i o a s' → Sound s'
rewrite-kept s s' i o (made r) kept f t =
    let R = t.1.0 in
    let b = subst (Gives (Keeping s.functions (tree_at s i))) t.1.2 (f t.0) in
    kept-longer s s' _ _ kept (added-longer s s' R i r t.0 b.1 b.0 t.1.3)
rewrite-kept s s' i o unchanged kept f t = subst Sound (sym t.2) kept
rewrite-kept s s' i o (refused x) kept f t = subst Sound (sym t.0) kept

step_kept : (s s' : Model) (c : Request) (a : Answer) → Sound s → LooseAnswers s c a s' → Sound s'
step_kept s s' (build c) (made r) kept t = kept-longer s s' _ _ kept (built-longer s s' c r kept t)
step_kept s s' (build c) unchanged kept t = absurd t
step_kept s s' (build c) (refused x) kept t = subst Sound (sym t.2) kept
step_kept s s' (extract i) a kept t = rewrite-kept s s' i _ a kept (λ h. extract-keeps s.functions (tree_at s i) _ (good-node s kept i h)) t
step_kept s s' (push_down i) a kept t = rewrite-kept s s' i _ a kept (λ h. push-keeps s.functions (tree_at s i) _ (good-node s kept i h)) t
step_kept s s' (swap i k j) (made r) kept t = swap-kept s s' i k j r kept t.0 t.1.0
step_kept s s' (swap i k j) unchanged kept t = absurd t
step_kept s s' (swap i k j) (refused x) kept t = subst Sound (sym t.0) kept

pub run-kept : (s s' : Model) (ss : List Step) → Sound s → LooseRun s ss s' → Sound s'
run-kept s s' [] kept t = subst Sound (sym t) kept
run-kept s s' (c ∷ cs) kept t = run-kept t.0 s' cs (step_kept s t.0 c.0 c.1 kept t.1) t.2

run-loose : (s s' : Model) (ss : List Step) → Sound s → Run s ss s' → LooseRun s ss s'
run-loose s s' [] kept t = t
run-loose s s' (c ∷ cs) kept t =
    let x = step-loose s t.0 c.0 c.1 kept t.1 in
    (t.0, x, run-loose t.0 s' cs (step_kept s t.0 c.0 c.1 kept x) t.2)

law-loose : (F : Functions) (text : List ℕ) (used : Space) (ss : List Step) (s : Model) → Run (opened F text used) ss s → LooseRun (opened F text used) ss s
law-loose F text used ss s t = run-loose (opened F text used) s ss (kept-none F text used) t

law-agree : (F : Functions) (text : List ℕ) (used : Space) (ss : List Step) (s : Model) → LooseRun (opened F text used) ss s → Agree s
law-agree F text used ss s t =
    let k = run-kept (opened F text used) s ss (kept-none F text used) t in
    record { good = good-node s k; same = k.alike; resolved = λ i h. good-resolved s.functions (tree_at s i) (good-node s k i h) }

-- the names of every node's fields are among the names of the book
node-names : (F : Functions) (Q : Name → Type 0) (ns : List Node) → AllByRecursion Q (node_names F ns) → AllByRecursion (λ n. AllByRecursion (λ f. Q f.name) (fields_of F n.tree)) ns
unfolding node_names
node-names F Q [] h = tt
node-names F Q (n ∷ ns) h =
    let a = all_split Q (map (λ f. f.name) (fields_of F n.tree)) _ h in
    let b = all_split Q (plan_names n.tree) (node_names F ns) a.1 in
    (all_of_map Q (λ f. f.name) (fields_of F n.tree) a.0, node-names F Q ns b.1)

lower-names : (m : Model) → AllByRecursion (λ x. number_of x < next_number m) (book_names m)
unfolding next_number
lower-names m = All-weaker _ _ (λ x h. suc-le-suc h) (book_names m) (highest-above 99999999 (book_names m))

pub fields-lower : (s : Model) → AllByRecursion (λ n. AllByRecursion (λ f. number_of f.name < next_number s) (fields_of s.functions n.tree)) s.plans
unfolding book_names
fields-lower s =
    node-names s.functions (λ x. number_of x < next_number s) s.plans
    (all_split _ (list_names s.exprs) (node_names s.functions s.plans) (lower-names s)).1

-- and so are those of its inputs' fields
input-fields : (F : Functions) (Q : Field → Type 0) (P : Plan) → AllByRecursion (λ p. AllByRecursion Q (fields_of F p)) (inputs_of P) → AllByRecursion Q (input_fields F P)
input-fields F Q (table k q ns) h = tt
input-fields F Q (projection es i) h = h.0
input-fields F Q (filter e i) h = h.0
input-fields F Q (sort ks i) h = h.0
input-fields F Q (limit s c i) h = h.0
input-fields F Q (aggregate gs ts i) h = h.0
input-fields F Q (join k cs l r) h = All-append Q (fields_of F l) (fields_of F r) h.0 h.1.0
input-fields F Q (subquery_alias n i) h = h.0
input-fields F Q (union i is) h = h.0

inputs-lower : (s : Model) (i : ℕ) → Sound s → i < count_of s → AllByRecursion (λ f. number_of f.name < next_number s) (input_fields s.functions (tree_at s i))
inputs-lower s i kept h =
    let a = kept.stands i h in
    input-fields s.functions _ (tree_at s i) (subst (AllByRecursion Q) (sym a.1) (All-map Q _ (inputs_at s i) (All-weaker _ _ (λ k l. at k l) (inputs_at s i) a.0)))
  where
    Q : Plan → Type 0
    Q p = AllByRecursion (λ f. number_of f.name < next_number s) (fields_of s.functions p)

    at : (k : ℕ) → k < i → Q (tree_at s k)
    at k l = All-get_or (λ n. Q n.tree) s.plans k no_node (omega arith) (fields-lower s)

answer-is : (s s' : Model) (R : Plan) (o r : ℕ) → Added s R o r s' → tree_at s' r ≡ R
answer-is s s' R o r a =
    let node : Node = record { tree = R; origin = o } in
    ap (λ (n : Node). n.tree)
    (ap (λ (i : ℕ). get_or s'.plans i no_node) a.number ∙ ap (λ (l : List Node). get_or l (count_of s + length a.helpers) no_node) a.plans_longer
    ∙ get_or-append-add s.plans (a.helpers ++ node ∷ []) (length a.helpers) no_node ∙ get_or-append_seam a.helpers node [] no_node)

law-leaves : (F : Functions) (text : List ℕ) (used : Space) (ss : List Step) (s : Model) → LooseRun (opened F text used) ss s
    → (c : Request) (a : Answer) (s' : Model) → LooseAnswers s c a s' → Leaves s c a s'
unfolding start_at
law-leaves F text used ss s t (build c) a s' x = tt
law-leaves F text used ss s t (extract i) (made r) s' x =
    let kept = run-kept (opened F text used) s ss (kept-none F text used) t in
    let l = extract-leaves-nothing s.functions (tree_at s i) x.1.0 (start_at (next_number s)) x.1.1 (inputs-lower s i kept x.0) x.1.2 in
    subst (NothingLeft s.functions (tree_at s i)) (sym (answer-is s s' x.1.0 (origin_at s i) r x.1.3)) l
law-leaves F text used ss s t (extract i) unchanged s' x = tt
law-leaves F text used ss s t (extract i) (refused f) s' x = tt
law-leaves F text used ss s t (push_down i) a s' x = tt
law-leaves F text used ss s t (swap i k j) a s' x = tt

pub law : Law
law = record { loose = law-loose; agree = law-agree; leaves = law-leaves }
