-- The recovery of a node as a step.
use Rattle.std.proofs.Common.{◌≡◌, ℕ, ◌<◌, ◌≤◌, Bool, true, false, cond, not, ◌||◌, ◌⊎◌, List, [], ◌∷◌, length, get_or, eqb, Ok, Err, Result, inl, inr, sym, refl, ap, ap₂, ◌∙◌, subst, append-nil, not-suc-le-zero, arith}
use Rattle.entries.specs.declared.node.ExprId.{ExprId}
use Rattle.entries.specs.declared.node.PlanId.{PlanId}
use Rattle.extracting.proofs.Growing.{grows-at-once}
use Rattle.extracting.specs.Walking.{NoRoom}
use Rattle.plan.specs.Faults.{refusal}
use Rattle.plan.specs.Fields.{any}
use Rattle.plan.specs.Functions.{Functions, is_total}
use Rattle.plan.specs.Model.{Model, Space, count_of, exprs_in, no_node, plan_in, tree_at}
use Rattle.plan.specs.Plans.{Plan, fields_of}
use Rattle.plan.specs.Plans.Plan.{projection}
use Rattle.plan.specs.Terms.{Expr, Field, same_field}
use Rattle.plan.specs.Terms.Expr.{alias, reference}
use Rattle.plan.specs.declared.fault.Fault.{Fault}
use Rattle.plan.specs.declared.fault.Question.TheVariants.{Space as SpaceQuestion}
use Rattle.plan.specs.declared.fault.Stage.TheVariants.{Recovery}
use Rattle.rewriting.specs.Book.{spent_by}
use Rattle.rewriting.specs.Extracting.{Outcome, build_recovery_projection, built, by_place, made, refused, remade, same_fields}
use Rattle.rewriting.specs.Outlay.{Tally, charged, list_space}
use Rattle.rows.specs.Standing.{refs}
use Rattle.stepping.proofs.Chain.{Spends, at-most-same, charged-err, charged-then, grown-extends, made-spends}
use Rattle.stepping.specs.Lists.{ListMade}
use Rattle.stepping.specs.Steps.{NoSpace, Start, Steps, Stood}
use Rattle.tables.proofs.Inputs.{tree-at}
use Rattle.tables.specs.Holding.{fields_at, model_of, plan_count, tree_in, trees_in, view_in}
use Rattle.tables.specs.declared.tables.Tables.{Tables}
use Rattle.terms.specs.Views.{numbers_of}
use Rattle.recovering.specs.Renaming.{recovery_list}

-- the list of a recovery has no total
by-place-plain : (F : Functions) (fs gs : List Field) → any (is_total F) (by_place fs gs) ≡ false
unfolding by_place
by-place-plain F [] gs = refl
by-place-plain F (f ∷ fs) [] = refl
by-place-plain F (f ∷ fs) (g ∷ gs) = ap₂ (λ a b. a || b) (either (same_field f g)) (by-place-plain F fs gs)
  where
    either : (b : Bool) → is_total F (cond b (reference g) (alias (reference g) f)) ≡ false
    either true = refl
    either false = refl

refs-plain : (F : Functions) (fs : List Field) → any (is_total F) (refs fs) ≡ false
refs-plain F [] = refl
refs-plain F (f ∷ fs) = refs-plain F fs

recovery-plain : (F : Functions) (fs gs : List Field) → any (is_total F) (recovery_list fs gs) ≡ false
recovery-plain F fs gs = go (eqb (length fs) (length gs))
  where
    go : (b : Bool) → any (is_total F) (cond b (by_place fs gs) (refs fs)) ≡ false
    go true = by-place-plain F fs gs
    go false = refs-plain F fs

pub recovery-placed : (t u : Tables) (fs gs : List Field) (ids : List ExprId) → ListMade t (recovery_list fs gs) 0 ids u → not (any (is_total (view_in u).functions) (exprs_in (view_in u).trees (numbers_of ids))) ≡ true
recovery-placed t u fs gs ids l = ap not (ap (any (is_total (view_in u).functions)) l.trees ∙ recovery-plain (view_in u).functions fs gs)

-- a step is that of any definition that comes to the same
pub steps-as : (m m' : Model) (low : ℕ) (o o' : Tally → Outcome) (r : Result PlanId Fault) → ((n : Tally) → o n ≡ o' n) → Steps m low o r m' → Steps m low o' r m'
steps-as m m' low o o' (Ok p) e a = λ u n s. let g = a u n s in (g.0, g.1, sym (e n) ∙ g.2, g.3, g.4)
steps-as m m' low o o' (Err f) e a = λ u n s. subst (λ z. ((k : Tally) × (z ≡ refused f k)) ⊎ NoSpace u z f) (e n) (a u n s)

-- a node that is there already
pub stays : (m : Model) (p : PlanId) → p.0 < count_of m → Steps m 0 (built (tree_at m p.0)) (Ok p) m
stays m p lt = λ u n s. (
  tree_at m p.0,
  n,
  refl,
  omega arith,
  record { present = lt; tree = refl; extends = grown-extends m m (grows-at-once m); spent = s.spent; numbers = s.numbers },
)

-- which way the recovery goes
pub same-recovers : (F : Functions) (old : List Field) (p : Plan) (n : Tally) → same_fields old (fields_of F p) ≡ true → build_recovery_projection F 0 old p n ≡ built p n
unfolding build_recovery_projection
same-recovers F old p n h = ap (λ b. cond b (built p n) (remade F Recovery 0 (projection (recovery_list old (fields_of F p)) p) n)) h

pub other-recovers : (F : Functions) (old : List Field) (p : Plan) (n : Tally) → same_fields old (fields_of F p) ≡ false
    → build_recovery_projection F 0 old p n ≡ made F Recovery 0 (projection (recovery_list old (fields_of F p)) p) (charged (list_space (recovery_list old (fields_of F p))) n)
unfolding build_recovery_projection remade
other-recovers F old p n h = ap (λ b. cond b (built p n) (remade F Recovery 0 (projection (recovery_list old (fields_of F p)) p) n)) h

module _ (t : Tables) (old p : PlanId) where
  abbrev F : Functions
  F = (view_in t).functions

  abbrev fs : List Field
  fs = fields_at t old.0

  abbrev P : Plan
  P = tree_in t p.0

  abbrev list : List Expr
  list = recovery_list fs (fields_at t p.0)

  abbrev Recovers : Result PlanId Fault → Model → Type 0
  Recovers r m = Steps (model_of t) 0 (build_recovery_projection F 0 fs P) r m

  pub recovers-same : p.0 < plan_count t → same_fields fs (fields_at t p.0) ≡ true → Recovers (Ok p) (model_of t)
  recovers-same lt h =
      let m = model_of t in
      steps-as m m 0 (built P) (build_recovery_projection F 0 fs P) (Ok p) (λ n. sym (same-recovers F fs P n h)) (subst (λ q. Steps m 0 (built q) (Ok p) m) (tree-at t p.0) (stays m p lt))

  module _ (differ : same_fields fs (fields_at t p.0) ≡ false) where
    abbrev node : Tally → Outcome
    node = made F Recovery 0 (projection list P)

    by-node : (r : Result PlanId Fault) (m : Model) → Steps (model_of t) 0 (λ n. node (charged (list_space list) n)) r m → Recovers r m
    by-node r m a = steps-as (model_of t) m 0 (λ n. node (charged (list_space list) n)) (build_recovery_projection F 0 fs P) r (λ n. sym (other-recovers F fs P n differ)) a

    -- where the list does not fit
    pub recovers-full : (e : Fault) (m : Model) → NoRoom t (list_space list) e → Recovers (Err e) m
    recovers-full e m h =
        by-node (Err e) m (charged-err (model_of t) m 0 (list_space list) node e (ap (λ f. f.question) h.0) h.1 (made-spends F Recovery 0 (projection list P)))

    -- where it is made, and then the node
    pub recovers-made : (u : Tables) (ids : List ExprId) (r : Result PlanId Fault) (m : Model) → ListMade t list 0 ids u
        → Steps (model_of u) 0 (made (view_in u).functions Recovery 0 (projection (exprs_in (view_in u).trees (numbers_of ids)) (tree_in u p.0))) r m → Recovers r m
    recovers-made u ids r m l a =
        let input : tree_in u p.0 ≡ P = sym (tree-at u p.0) ∙ ap (λ ns. (get_or ns p.0 no_node).tree) l.grows.plans ∙ tree-at t p.0 in
        let tree = ap₂ projection l.trees input in
        let b : Steps (model_of u) 0 node r m = subst (λ o. Steps (model_of u) 0 o r m) (ap₂ (λ G q. made G Recovery 0 q) l.grows.functions tree) a in
        by-node r m (charged-then (model_of t) (model_of u) m 0 0 (list_space list) node (omega arith) r l.grows l.spent l.numbers b)
