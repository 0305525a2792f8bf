-- The first half of an extract, the walk, and what it leaves to the second, which builds.
use Rattle.std.proofs.Common.{◌≡◌, ℕ, ◌≤◌, ◌+◌, Bool, true, false, cond, List, Some, None, Ok, Err, Option, Result, ◌⊎◌, inl, inr, refl, sym, ap, ◌∙◌, subst, arith}
use Rattle.plan.specs.Faults.{fault, refusal}
use Rattle.plan.specs.Functions.{Functions}
use Rattle.plan.specs.Model.{Model, Space, Within, count_of, fits, plus}
use Rattle.plan.specs.Terms.{Expr}
use Rattle.plan.specs.declared.fault.Fault.{Fault}
use Rattle.plan.specs.declared.fault.Question.TheVariants.{Limited}
use Rattle.plan.specs.declared.fault.Stage.TheVariants.{Extraction}
use Rattle.entries.specs.declared.node.PlanId.{PlanId}
use Rattle.extracting.proofs.Spaces.{AtMost, at-most-then, within-same, within-then}
use Rattle.extracting.specs.Walking.{Grows, NoNumber, NoRoom, Numbered, Stopped}
use Rattle.rewriting.specs.Book.{spent_by}
use Rattle.rewriting.specs.Extracting.{Outcome, built, no_change, refused, when_extractable, when_new}
use Rattle.rewriting.specs.Generated.{next_number}
use Rattle.rewriting.specs.Outlay.{Tally, after_walk, list_space, nothing, start_at}
use Rattle.rewriting.specs.Routing.{Extractor, has_extractable_expr}
use Rattle.tables.specs.Holding.{model_of}
use Rattle.tables.specs.declared.tables.Tables.{Tables}
use Rattle.leaf_expressions.specs.Comes.{Comes}
use Rattle.leaf_expressions.proofs.Spending.{Spending}
use Rattle.stepping.proofs.Chain.{at-most-same, extends-then, fits-no-more, grown-extends}
use Rattle.stepping.specs.Steps.{NoSpace, Start, Steps, Stood}

-- es are the expressions that are looked through, ws and g what the walk comes to, and fin what is built then
module _ (t : Tables) (F : Functions) (es ws : List Expr) (g : Extractor) (fin : Tally → Outcome) where
  abbrev m : Model
  m = model_of t

  abbrev n : Tally
  n = start_at (next_number m)

  abbrev spent : Tally
  spent = after_walk ws g.next n

  abbrev pub whole : Outcome
  whole = when_extractable F es n (when_new g n spent (fin spent))

  pub nothing-marked : (m' : Model) → has_extractable_expr F es ≡ false → Comes m whole (Ok None) m'
  unfolding when_extractable
  nothing-marked m' h = (n, ap (λ b. cond b (when_new g n spent (fin spent)) (no_change n)) h)

  module _ (some : has_extractable_expr F es ≡ true) where
    is-new : whole ≡ when_new g n spent (fin spent)
    unfolding when_extractable
    is-new = ap (λ b. cond b (when_new g n spent (fin spent)) (no_change n)) some

    is-full : g.full ≡ true → whole ≡ refused (fault Limited Extraction 0) spent
    unfolding when_new
    is-full h = is-new ∙ ap (λ b. cond b (refused (fault Limited Extraction 0) spent) (cond g.new (fin spent) (no_change n))) h

    is-built : g.full ≡ false → g.new ≡ true → whole ≡ fin spent
    unfolding when_new
    is-built h k = is-new ∙ ap (λ b. cond b (refused (fault Limited Extraction 0) spent) (cond g.new (fin spent) (no_change n))) h ∙ ap (λ b. cond b (fin spent) (no_change n)) k

    pub nothing-new : (m' : Model) → g.full ≡ false → g.new ≡ false → Comes m whole (Ok None) m'
    unfolding when_new
    nothing-new m' h k = (n, is-new ∙ ap (λ b. cond b (refused (fault Limited Extraction 0) spent) (cond g.new (fin spent) (no_change n))) h ∙ ap (λ b. cond b (fin spent) (no_change n)) k)

    -- the walk was refused
    pub walk-stopped : (f : Fault) (m' : Model) → Spending fin → Stopped t (list_space ws) g f → Comes m whole (Err f) m'
    unfolding after_walk start_at
    walk-stopped f m' h (inr x) = inl (spent, is-full x.1 ∙ ap (λ y. refused y spent) (sym x.0))
    walk-stopped f m' h (inl x) = inr (ap (λ y. y.question) x.0.0, fits-no-more m.used (list_space ws) (spent_by whole) (more g.full refl) x.0.1)
      where
        here : AtMost (list_space ws) spent.spent
        here = record { exprs = omega arith; plans = omega arith; entries = omega arith; fields = omega arith; bytes = omega arith }

        more : (b : Bool) → g.full ≡ b → AtMost (list_space ws) (spent_by whole)
        more true e = subst (λ o. AtMost (list_space ws) (spent_by o)) (sym (is-full e)) here
        more false e = subst (λ o. AtMost (list_space ws) (spent_by o)) (sym (is-built e x.1)) (at-most-then (list_space ws) spent.spent (spent_by (fin spent)) here (h spent))

    -- it went through, and then something was built, or that was refused
    module _ (full : g.full ≡ false) (new : g.new ≡ true) (u : Tables) (low : ℕ) (le : low ≤ g.next) (later : next_number m ≤ g.next) (grows : Grows m (model_of u)) (within : Within m.used (list_space ws) (model_of u).used) (numbers : Numbered m g.next (model_of u)) where
      start : Start (model_of u) low m.used spent
      unfolding after_walk start_at
      start = record { spent = within-then m.used nothing m.used (list_space ws) (model_of u).used (within-same m.used nothing) within; least = le; numbers = numbers g.next later (omega arith) }

      pub half-built : (r : PlanId) (m' : Model) → Steps (model_of u) low fin (Ok r) m' → count_of m ≤ r.0 → r.0 + 1 ≡ count_of m' → Comes m whole (Ok (Some r)) m'
      half-built r m' s old last =
          let h = s m.used spent start in (
            h.0,
            h.1,
            is-built full new ∙ h.2,
            record {
              present = h.4.present;
              tree = h.4.tree;
              extends = extends-then m (model_of u) m' (grown-extends m (model_of u) grows) h.4.extends;
              spent = h.4.spent;
              numbers = h.4.numbers;
            },
            old,
            last,
          )

      pub half-refused : (f : Fault) (m' : Model) → Steps (model_of u) low fin (Err f) m' → Comes m whole (Err f) m'
      half-refused f m' s = subst (λ o. ((k : Tally) × (o ≡ refused f k)) ⊎ NoSpace m.used o f) (sym (is-built full new)) (s m.used spent start)
