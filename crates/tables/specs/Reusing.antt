-- What a call answers and leaves that makes an expression of names and parts that are stored already; cited by src/tables/expressions.rt.
--     Added m t r m', NotAdded m f m'      the tree t is the last, and nothing else has changed; there was no room, and nothing has changed
--     Reused m t r m'      either
use Rattle.std.specs.Prelude.{◌≡◌, ℕ, true, false, [], ◌∷◌, ◌++◌, length, Ok, Err, Result}
use Rattle.plan.specs.Terms.{Expr}
use Rattle.plan.specs.Faults.{refusal}
use Rattle.plan.specs.Model.{Model, fits, plus}
use Rattle.plan.specs.declared.fault.Fault.{Fault}
use Rattle.plan.specs.declared.fault.Question.TheVariants.{Space as SpaceQuestion}
use Rattle.expression.specs.Reusing.{one_node}
use Rattle.entries.specs.declared.node.ExprId.{ExprId}

pub record Added (m : Model) (t : Expr) (r : ℕ) (m' : Model) : Type 0 where
  pub room : fits m.used one_node ≡ true
  pub number : r ≡ length m.exprs
  pub functions : m'.functions ≡ m.functions
  pub exprs : m'.exprs ≡ m.exprs ++ t ∷ []
  pub plans : m'.plans ≡ m.plans
  pub inputs : m'.inputs ≡ m.inputs
  pub text : m'.text ≡ m.text
  pub used : m'.used ≡ plus m.used one_node

abbrev pub NotAdded : Model → Fault → Model → Type 0
NotAdded m f m' = (fits m.used one_node ≡ false) × (f ≡ refusal SpaceQuestion) × (m' ≡ m)

abbrev pub Reused : Model → Expr → Result ExprId Fault → Model → Type 0
Reused m t (Ok r) m' = Added m t r.0 m'
Reused m t (Err f) m' = NotAdded m f m'
