-- One step after another.
use Rattle.std.proofs.Common.{◌≡◌, ℕ, ◌+◌, ◌-◌, ◌<◌, ◌≤◌, Bool, true, false, ltb, not, T, ◌⊎◌, List, [], ◌∷◌, ◌++◌, length, get_or, Ok, Err, Some, None, Option, Result, inl, inr, sym, refl, ap, ◌∙◌, subst, append-nil, append_assoc, not-suc-le-zero, length-append, get_or-append-add, arith, ltb→lt, nltb→le}
use lib.ListN.{get_or-append}
use Rattle.lexicon.proofs.Begun.{begins-then}
use Rattle.plan.specs.Faults.{first_no}
use Rattle.plan.specs.Functions.{Functions}
use Rattle.plan.specs.Model.{Model, Node, Space, Within, count_of, fits, no_node, plus, tree_at}
use Rattle.plan.specs.Plans.{Plan}
use Rattle.plan.specs.Questions.{node_asked}
use Rattle.plan.specs.Swapping.{own_space}
use Rattle.plan.specs.declared.fault.Question.{Question}
use Rattle.plan.specs.declared.fault.Question.TheVariants.{Space as SpaceQuestion}
use Rattle.plan.specs.declared.fault.Stage.{Stage}
use Rattle.rows.specs.Standing.{Good}
use Rattle.plan.specs.declared.fault.Fault.{Fault}
use Rattle.extracting.proofs.Spaces.{AtMost, at-most-nothing, at-most-then, no-room, within-same, within-then}
use Rattle.extracting.specs.Walking.{Grows, Numbered}
use Rattle.rewriting.specs.Book.{spent_by}
use Rattle.rewriting.specs.Extracting.{Outcome, and_then, built, made, made_if, no_change, refused}
use Rattle.rewriting.specs.Outlay.{Tally, charged, nothing}
use Rattle.entries.specs.declared.node.PlanId.{PlanId}
use Rattle.stepping.specs.Steps.{AllGood, Extends, NoSpace, Start, Steps, Stood}

pub extends-then : (a b c : Model) → Extends a b → Extends b c → Extends a c
extends-then a b c g h =
    let long : length b.plans ≡ length a.plans + length g.nodes = ap length g.plans ∙ length-append a.plans g.nodes in
    record {
      functions = h.functions ∙ g.functions;
      exprs = begins-then a.exprs b.exprs c.exprs g.exprs h.exprs;
      text = begins-then a.text b.text c.text g.text h.text;
      inputs = begins-then a.inputs b.inputs c.inputs g.inputs h.inputs;
      nodes = g.nodes ++ h.nodes;
      plans = h.plans ∙ ap (λ (l : List Node). l ++ h.nodes) g.plans ∙ append_assoc a.plans g.nodes h.nodes;
      origins = λ k lt. go k lt (ltb k (length g.nodes)) (λ t. ltb→lt k (length g.nodes) t) (λ t. nltb→le k (length g.nodes) t);
      good = λ x. h.good (g.good x);
    }
  where
    go : (k : ℕ) → k < length (g.nodes ++ h.nodes) → (d : Bool) → (T d → k < length g.nodes) → (T (not d) → length g.nodes ≤ k) → (get_or (g.nodes ++ h.nodes) k no_node).origin ≡ count_of a + k
    go k lt true f e = ap (λ (n : Node). n.origin) (get_or-append g.nodes h.nodes no_node k (f tt)) ∙ g.origins k (f tt)
    go k lt false f e = later k lt (e tt)
      where
        later : (k : ℕ) → k < length (g.nodes ++ h.nodes) → length g.nodes ≤ k → (get_or (g.nodes ++ h.nodes) k no_node).origin ≡ count_of a + k
        later k lt le =
            let j : ℕ = k - length g.nodes in
            let is : k ≡ length g.nodes + j = omega arith in
            let all = length-append g.nodes h.nodes in
            let long : length b.plans ≡ length a.plans + length g.nodes = ap length g.plans ∙ length-append a.plans g.nodes in
            let here : (get_or (g.nodes ++ h.nodes) (length g.nodes + j) no_node).origin ≡ count_of b + j = ap (λ (n : Node). n.origin) (get_or-append-add g.nodes h.nodes j no_node) ∙ h.origins j (omega arith) in
            subst (λ i. (get_or (g.nodes ++ h.nodes) i no_node).origin ≡ count_of a + i) (sym is) (here ∙ omega arith)

pub at-most-same : (p : Space) → AtMost p p
at-most-same p = record { exprs = omega arith; plans = omega arith; entries = omega arith; fields = omega arith; bytes = omega arith }

-- what does not fit does not fit with more
pub fits-no-more : (u p q : Space) → AtMost p q → fits u p ≡ false → fits u q ≡ false
fits-no-more u p q a h = no-room u nothing u p q (within-same u nothing) (at-most-then (plus nothing p) p q (at-most-nothing p) a) h

-- a later step spends no less
abbrev pub Spends : (Plan → Tally → Outcome) → Type 0
Spends f = (p : Plan) (k : Tally) → AtMost k.spent (spent_by (f p k))

pub spends-then : (o : Outcome) (f : Plan → Tally → Outcome) → Spends f → AtMost (spent_by o) (spent_by (and_then o f))
unfolding and_then
spends-then (built p k) f h = h p k
spends-then (no_change k) f h = at-most-same k.spent
spends-then (refused x k) f h = at-most-same k.spent

pub then-start : (m m1 : Model) (low low2 : ℕ) (u : Space) (n k : Tally) (R : Plan) (r : ℕ) → Start m low u n → low2 ≤ low → n.next ≤ k.next → Stood m u R r k m1 → Start m1 low2 u k
then-start m m1 low low2 u n k R r s le up d = record { spent = d.spent; least = omega (arith, s.least); numbers = d.numbers }

module _ (m m1 m2 : Model) (low low2 : ℕ) (o : Tally → Outcome) (f : Plan → Tally → Outcome) (le : low2 ≤ low) where
  -- a step that stood, and the next one
  pub then-ok : (q : PlanId) (x : Result PlanId Fault) → Steps m low o (Ok q) m1 → Steps m1 low2 (f (tree_at m1 q.0)) x m2 → Steps m low (λ n. and_then (o n) f) x m2
  unfolding and_then
  then-ok q (Ok r) a b = λ u n s.
      let g = a u n s in
      let h = b u g.1 (then-start m m1 low low2 u n g.1 g.0 q.0 s le g.3 g.4) in
      let is : and_then (o n) f ≡ f (tree_at m1 q.0) g.1 = ap (λ z. and_then z f) g.2 ∙ ap (λ p. f p g.1) (sym g.4.tree) in (
        h.0,
        h.1,
        is ∙ h.2,
        omega (arith, g.3, h.3),
        record {
          present = h.4.present;
          tree = h.4.tree;
          extends = extends-then m m1 m2 g.4.extends h.4.extends;
          spent = h.4.spent;
          numbers = h.4.numbers;
        },
      )
  then-ok q (Err e) a b = λ u n s.
      let g = a u n s in
      let h = b u g.1 (then-start m m1 low low2 u n g.1 g.0 q.0 s le g.3 g.4) in
      let is : and_then (o n) f ≡ f (tree_at m1 q.0) g.1 = ap (λ z. and_then z f) g.2 ∙ ap (λ p. f p g.1) (sym g.4.tree) in
      subst (λ z. ((k : Tally) × (z ≡ refused e k)) ⊎ NoSpace u z e) (sym is) h

  -- a step that was refused refuses the whole
  pub then-err : (e : Fault) → Spends f → Steps m low o (Err e) m1 → Steps m low (λ n. and_then (o n) f) (Err e) m2
  unfolding and_then
  then-err e h a = λ u n s. go u n (a u n s)
    where
      go : (u : Space) (n : Tally) → ((k : Tally) × (o n ≡ refused e k)) ⊎ NoSpace u (o n) e → ((k : Tally) × (and_then (o n) f ≡ refused e k)) ⊎ NoSpace u (and_then (o n) f) e
      go u n (inl x) = inl (x.0, ap (λ z. and_then z f) x.1)
      go u n (inr y) = inr (y.0, fits-no-more u (spent_by (o n)) (spent_by (and_then (o n) f)) (spends-then (o n) f h) y.1)

-- expressions are made before a step, and their places are spent
pub grown-extends : (m m1 : Model) → Grows m m1 → Extends m m1
grown-extends m m1 g = record {
  functions = g.functions;
  exprs = g.exprs;
  text = g.text;
  inputs = record { more = []; is = g.inputs ∙ sym (append-nil m.inputs) };
  nodes = [];
  plans = g.plans ∙ sym (append-nil m.plans);
  origins = λ k lt. absurd (not-suc-le-zero lt);
  good = λ x. λ i lt. rw g.functions (subst (λ (l : List Node). Good m.functions (get_or l i no_node).tree) (sym g.plans) (x i (subst (λ (l : List Node). i < length l) g.plans lt)));
}

module _ (m m1 m2 : Model) (low low2 : ℕ) (x : Space) (o : Tally → Outcome) (le : low2 ≤ low) where
  -- what was charged before a step, whichever way
  pub charged-then : (r : Result PlanId Fault) → Grows m m1 → Within m.used x m1.used → Numbered m low m1 → Steps m1 low2 o r m2 → Steps m low (λ n. o (charged x n)) r m2
  unfolding charged
  charged-then (Ok r) g w k a = λ u n s.
      let h = a u (charged x n) (record { spent = within-then u n.spent m.used x m1.used s.spent w; least = omega (arith, s.least, le); numbers = k n.next s.numbers s.least }) in (
        h.0,
        h.1,
        h.2,
        h.3,
        record {
          present = h.4.present;
          tree = h.4.tree;
          extends = extends-then m m1 m2 (grown-extends m m1 g) h.4.extends;
          spent = h.4.spent;
          numbers = h.4.numbers;
        },
      )
  charged-then (Err e) g w k a = λ u n s. a u (charged x n) (record { spent = within-then u n.spent m.used x m1.used s.spent w; least = omega (arith, s.least, le); numbers = k n.next s.numbers s.least })

-- where what is charged before a step does not fit
pub charged-err : (m m2 : Model) (low : ℕ) (x : Space) (o : Tally → Outcome) (e : Fault) → e.question ≡ SpaceQuestion → fits m.used x ≡ false → ((k : Tally) → AtMost k.spent (spent_by (o k)))
    → Steps m low (λ n. o (charged x n)) (Err e) m2
unfolding charged
charged-err m m2 low x o e q h spends = λ u n s.
    inr (q, fits-no-more u (plus n.spent x) (spent_by (o (charged x n))) (spends (charged x n)) (no-room u n.spent m.used x (plus n.spent x) s.spent (at-most-same (plus n.spent x)) h))

pub made-spends : (F : Functions) (stage : Stage) (level : ℕ) (p : Plan) (k : Tally) → AtMost k.spent (spent_by (made F stage level p k))
unfolding made made_if charged
made-spends F stage level p k = go (first_no (node_asked F p))
  where
    go : (o : Option Question) → AtMost k.spent (spent_by (made_if o stage level p (charged (own_space F p) k)))
    go None = record { exprs = omega arith; plans = omega arith; entries = omega arith; fields = omega arith; bytes = omega arith }
    go (Some q) = record { exprs = omega arith; plans = omega arith; entries = omega arith; fields = omega arith; bytes = omega arith }
