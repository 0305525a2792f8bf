-- A node made, and then recovered.
use Rattle.std.proofs.Common.{◌≡◌, ℕ, ◌<◌, ◌≤◌, Bool, true, false, List, length, get_or, Ok, Err, Some, None, Option, Result, sym, refl, ap, ap₂, ◌∙◌, subst, length-append, arith}
use Rattle.std.proofs.lemmas.List.{get_or_append_left}
use Rattle.entries.specs.declared.node.PlanId.{PlanId}
use Rattle.extracting.proofs.Spaces.{AtMost, at-most-then, within-same}
use Rattle.plan.specs.Faults.{first_no}
use Rattle.plan.specs.Functions.{Functions}
use Rattle.plan.specs.Model.{Model, count_of, no_node, tree_at}
use Rattle.plan.specs.Plans.{Plan, fields_of}
use Rattle.plan.specs.Plans.Plan.{projection}
use Rattle.plan.specs.Questions.{node_asked}
use Rattle.plan.specs.Swapping.{own_space}
use Rattle.plan.specs.Terms.{Field}
use Rattle.plan.specs.declared.fault.Fault.{Fault}
use Rattle.plan.specs.declared.fault.Question.{Question}
use Rattle.plan.specs.declared.fault.Stage.TheVariants.{Rebuilt, Recovery}
use Rattle.rewriting.proofs.Building.{all_yes, passed}
use Rattle.rewriting.specs.Book.{spent_by}
use Rattle.rewriting.specs.Extracting.{build_recovery_projection, built, made, made_if, rebuilt, same_fields}
use Rattle.rewriting.specs.Generated.{next_number}
use Rattle.rewriting.specs.Outlay.{Tally, charged, list_space, nothing}
use Rattle.rows.specs.Standing.{Passed}
use Rattle.stepping.proofs.Chain.{Spends, at-most-same, made-spends, then-err, then-ok}
use Rattle.stepping.specs.Steps.{Extends, Start, Steps}
use Rattle.tables.proofs.Inputs.{tree-at}
use Rattle.tables.specs.Holding.{fields_at, model_of, plan_count, tree_in, view_in}
use Rattle.tables.specs.declared.tables.Tables.{Tables}
use Rattle.recovering.proofs.Recovered.{other-recovers, same-recovers}
use Rattle.recovering.specs.Renaming.{recovery_list}

-- the node that a step made
pub record Stands (m : Model) (F : Functions) (N : Plan) (p : ℕ) (m' : Model) : Type 0 where
  pub there : p < count_of m'
  pub tree : tree_at m' p ≡ N
  pub extends : Extends m m'
  pub passed : Passed F N

pub made-stands : (m : Model) (F : Functions) (N : Plan) (p : PlanId) (m' : Model) → Steps m 0 (made F Rebuilt 0 N) (Ok p) m' → Stands m F N p.0 m'
unfolding made made_if
made-stands m F N p m' a =
    let n : Tally = record { next = next_number m; spent = nothing } in
    let s : Start m 0 m.used n = record { spent = within-same m.used nothing; least = omega arith; numbers = omega arith } in
    let g = a m.used n s in
    let h = which (first_no (node_asked F N)) refl g.0 g.1 (charged (own_space F N) n) g.2 in
    record { there = g.4.present; tree = g.4.tree ∙ h.1; extends = g.4.extends; passed = passed F N (all_yes (node_asked F N) h.0) }
  where
    which : (q : Option Question) → first_no (node_asked F N) ≡ q → (R : Plan) (k t : Tally) → made_if q Rebuilt 0 N t ≡ built R k → (first_no (node_asked F N) ≡ None) × (R ≡ N)
    which None e R k t h = (e, cc)
    which (Some q) e R k t h = absurd (let z : ◌≡◌ {A = ℕ} 0 1 = cc in omega arith)

-- a later recovery spends no less
pub recovery-spends : (F : Functions) (old : List Field) → Spends (build_recovery_projection F 0 old)
unfolding charged
recovery-spends F old p k = go (same_fields old (fields_of F p)) refl
  where
    go : (b : Bool) → same_fields old (fields_of F p) ≡ b → AtMost k.spent (spent_by (build_recovery_projection F 0 old p k))
    go true h = subst (λ o. AtMost k.spent (spent_by o)) (sym (same-recovers F old p k h)) (at-most-same k.spent)
    go false h =
        let list = recovery_list old (fields_of F p) in
        let more : AtMost k.spent (charged (list_space list) k).spent = record { exprs = omega arith; plans = omega arith; entries = omega arith; fields = omega arith; bytes = omega arith } in
        subst (λ o. AtMost k.spent (spent_by o)) (sym (other-recovers F old p k h)) (at-most-then _ _ _ more (made-spends F Recovery 0 (projection list p) (charged (list_space list) k)))

-- a node that there was is still there
module _ (t u : Tables) (x : Extends (model_of t) (model_of u)) where
  pub more-nodes : plan_count t ≤ plan_count u
  more-nodes = omega (arith, ap length x.plans, length-append (model_of t).plans x.nodes)

  pub fields-kept : (i : ℕ) → i < plan_count t → fields_at u i ≡ fields_at t i
  fields-kept i lt =
      let tree : tree_in u i ≡ tree_in t i = sym (tree-at u i) ∙ ap (λ n. n.tree) (ap (λ ns. get_or ns i no_node) x.plans ∙ get_or_append_left (model_of t).plans x.nodes no_node i lt) ∙ tree-at t i in
      ap₂ fields_of x.functions tree

module _ (t : Tables) (old : PlanId) (N : Plan) where
  abbrev F : Functions
  F = (view_in t).functions

  abbrev fs : List Field
  fs = fields_at t old.0

  pub rebuilt-err : (e : Fault) (m m' : Model) → Steps (model_of t) 0 (made F Rebuilt 0 N) (Err e) m → Steps (model_of t) 0 (rebuilt F 0 fs N) (Err e) m'
  unfolding rebuilt
  rebuilt-err e m m' a = then-err (model_of t) m m' 0 0 (made F Rebuilt 0 N) (build_recovery_projection F 0 fs) (omega arith) e (recovery-spends F fs) a

  module _ (u : Tables) (p : PlanId) (a : Steps (model_of t) 0 (made F Rebuilt 0 N) (Ok p) (model_of u)) where
    pub stands : Stands (model_of t) F N p.0 (model_of u)
    stands = made-stands (model_of t) F N p (model_of u) a

    pub new-fields : fields_at u p.0 ≡ fields_of F N
    new-fields = ap₂ fields_of stands.extends.functions (sym (tree-at u p.0) ∙ stands.tree)

    pub rebuilt-ok : old.0 < plan_count t → (r : Result PlanId Fault) (m : Model) → Steps (model_of u) 0 (build_recovery_projection (view_in u).functions 0 (fields_at u old.0) (tree_in u p.0)) r m → Steps (model_of t) 0 (rebuilt F 0 fs N) r m
    unfolding rebuilt
    rebuilt-ok lt r m b =
        let x = stands.extends in
        let are = ap₂ (λ G gs. build_recovery_projection G 0 gs (tree_in u p.0)) x.functions (fields-kept t u x old.0 lt) ∙ ap (build_recovery_projection F 0 fs) (sym (tree-at u p.0)) in
        then-ok (model_of t) (model_of u) m 0 0 (made F Rebuilt 0 N) (build_recovery_projection F 0 fs) (omega arith) p r a (subst (λ o. Steps (model_of u) 0 o r m) are b)
