-- No step of an extract spends less than what was spent before it.
use Rattle.std.proofs.Common.{◌≡◌, ℕ, Bool, true, false, cond, List, [], ◌∷◌, arith}
use Rattle.plan.specs.Functions.{Functions}
use Rattle.plan.specs.Model.{Space, plus}
use Rattle.plan.specs.Plans.{Plan, fields_of}
use Rattle.plan.specs.Questions.{expressions_of}
use Rattle.plan.specs.Terms.{Field}
use Rattle.plan.specs.declared.fault.Stage.{Stage}
use Rattle.plan.specs.declared.fault.Stage.TheVariants.{Rebuilt, Recovery}
use Rattle.extracting.proofs.Spaces.{AtMost, at-most-then}
use Rattle.rewriting.specs.Book.{spent_by}
use Rattle.rewriting.specs.Extracting.{Outcome, and_then, build_extraction_projection, build_extraction_projection_impl, build_recovery_projection, built, by_place, extraction_space, made, no_change, rebuilt, refused, remade, same_fields, stage_of}
use Rattle.rewriting.specs.Outlay.{Tally, charged, list_space}
use Rattle.rewriting.specs.Routing.{Pair}
use Rattle.stepping.proofs.Chain.{Spends, at-most-same, made-spends, spends-then}

-- a step spends no less
abbrev pub Spending : (Tally → Outcome) → Type 0
Spending o = (k : Tally) → AtMost k.spent (spent_by (o k))

more-charged : (x : Space) (k : Tally) → AtMost k.spent (charged x k).spent
unfolding charged
more-charged x k = record { exprs = omega arith; plans = omega arith; entries = omega arith; fields = omega arith; bytes = omega arith }

charged-spends : (F : Functions) (stage : Stage) (level : ℕ) (p : Plan) (x : Space) → Spending (λ k. made F stage level p (charged x k))
charged-spends F stage level p x k = at-most-then k.spent (charged x k).spent _ (more-charged x k) (made-spends F stage level p (charged x k))

pub then-spends : (o : Tally → Outcome) (f : Plan → Tally → Outcome) → Spending o → Spends f → Spending (λ k. and_then (o k) f)
then-spends o f h g k = at-most-then k.spent (spent_by (o k)) (spent_by (and_then (o k) f)) (h k) (spends-then (o k) f g)

pub projection-spends : (F : Functions) (level : ℕ) (p : Plan) (ps : List Pair) (cs : List Field) → Spending (build_extraction_projection F level p ps cs)
unfolding build_extraction_projection
projection-spends F level p [] cs k = at-most-same k.spent
projection-spends F level p (d ∷ ds) cs k = charged-spends F (stage_of p) level (build_extraction_projection_impl F p (d ∷ ds) cs) (extraction_space F p (d ∷ ds) cs) k

pub recovery-spends : (F : Functions) (level : ℕ) (old : List Field) → Spends (λ q m. build_recovery_projection F level old q m)
unfolding build_recovery_projection remade
recovery-spends F level old p k = either (same_fields old (fields_of F p)) (built p k) _ k.spent (at-most-same k.spent) (charged-spends F Recovery level _ _ k)
  where
    either : (b : Bool) (o q : Outcome) (x : Space) → AtMost x (spent_by o) → AtMost x (spent_by q) → AtMost x (spent_by (cond b o q))
    either true o q x h g = h
    either false o q x h g = g

pub rebuilt-spends : (F : Functions) (level : ℕ) (old : List Field) (p : Plan) → Spending (rebuilt F level old p)
unfolding rebuilt
rebuilt-spends F level old p k = then-spends (made F Rebuilt level p) (λ q m. build_recovery_projection F level old q m) (made-spends F Rebuilt level p) (recovery-spends F level old) k
