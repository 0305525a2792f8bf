-- What a Union is asked, as a loop computes it.
use Rattle.std.proofs.Common.{◌≡◌, ◌&&◌, eqb, List, [], ◌∷◌, length, get_or, sym, refl, ap}
use Rattle.std.proofs.lemmas.Bool.{eq-eqb}
use Rattle.plan.specs.Calls.{equal_widths}
use Rattle.plan.specs.Fields.{every}
use Rattle.plan.specs.Functions.{Functions}
use Rattle.plan.specs.Model.{plan_in, plans_in}
use Rattle.plan.specs.Plans.{Plan, fields_of}
use Rattle.entries.specs.declared.node.PlanId.{PlanId}
use Rattle.stored.specs.Making.{input_numbers}

-- the first input is as wide as itself, so that it may be asked too
pub equal-widths : (fs : Functions) (ts : List Plan) (ps : List PlanId) (d : PlanId)
    → equal_widths fs (plans_in ts (input_numbers ps)) ≡ every (λ q. eqb (length (fields_of fs q)) (length (fields_of fs (plan_in ts (get_or ps 0 d).0)))) (plans_in ts (input_numbers ps))
equal-widths fs ts [] d = refl
equal-widths fs ts (p ∷ ps) d =
    let n = length (fields_of fs (plan_in ts p.0)) in
    sym (ap (λ b. b && equal_widths fs (plans_in ts (input_numbers (p ∷ ps)))) (eq-eqb n n refl))
