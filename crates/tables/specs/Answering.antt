-- What a call on the tables answers, as a value.
--     answered_expr r, answered_plan r      the answer that a result stands for
use Rattle.std.specs.Prelude.{Ok, Err, Result}
use Rattle.plan.specs.Calls.{Answer}
use Rattle.plan.specs.Calls.Answer.{made, refused}
use Rattle.plan.specs.declared.fault.Fault.{Fault}
use Rattle.entries.specs.declared.node.ExprId.{ExprId}
use Rattle.entries.specs.declared.node.PlanId.{PlanId}

abbrev pub answered_expr : Result ExprId Fault → Answer
answered_expr (Ok e) = made e.0
answered_expr (Err f) = refused f

abbrev pub answered_plan : Result PlanId Fault → Answer
answered_plan (Ok p) = made p.0
answered_plan (Err f) = refused f
