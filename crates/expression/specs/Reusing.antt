-- What a call answers and leaves that makes one node of names and parts that are stored already; cited by src/reusing.rt.
--     one_node      the places that it takes
--     Added v t r v', NotAdded v f v'      the tree t is the last, and nothing else has changed; there was no room, and nothing has changed
--     Reused v t r v'      either
use Rattle.std.specs.Prelude.{◌≡◌, ℕ, true, false, [], ◌∷◌, length, Ok, Err, Result}
use Rattle.plan.specs.Terms.{Expr}
use Rattle.plan.specs.Faults.{refusal}
use Rattle.plan.specs.Model.{Space, space}
use Rattle.plan.specs.declared.fault.Fault.{Fault}
use Rattle.plan.specs.declared.fault.Question.TheVariants.{Space as SpaceQuestion}
use Rattle.terms.specs.Views.{View, grown}
use Rattle.entries.specs.declared.node.ExprId.{ExprId}
use Rattle.expression.specs.Building.{roomy}

abbrev pub one_node : Space
one_node = space 1 0 0 0 0

pub record Added (v : View) (t : Expr) (r : ℕ) (v' : View) : Type 0 where
  pub room : roomy v one_node ≡ true
  pub number : r ≡ length v.trees
  pub view : v' ≡ grown v (t ∷ []) [] []

abbrev pub NotAdded : View → Fault → View → Type 0
NotAdded v f v' = (roomy v one_node ≡ false) × (f ≡ refusal SpaceQuestion) × (v' ≡ v)

abbrev pub Reused : View → Expr → Result ExprId Fault → View → Type 0
Reused v t (Ok r) v' = Added v t r.0 v'
Reused v t (Err f) v' = NotAdded v f v'
