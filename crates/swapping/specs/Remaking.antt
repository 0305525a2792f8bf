-- A node made anew from the parts of another; cited by src/remaking.rt.
--     tree_asked m p      questions 6 to 9 of a node with the tree p, whose lists and name are stored again
--     TreeStored m p is r m', TreeMade m p is r m'      the book with such a node, on these inputs; what making it comes to
use Rattle.std.specs.Prelude.{◌≡◌, ℕ, List, [], ◌∷◌, ◌++◌, Some, None, Ok, Err, Result}
use Rattle.plan.specs.Plans.{Plan}
use Rattle.plan.specs.Faults.{Asked, first_no, refusal}
use Rattle.plan.specs.Questions.{node_asked}
use Rattle.plan.specs.Model.{Model, fits, plus, count_of}
use Rattle.plan.specs.Swapping.{own_space}
use Rattle.plan.specs.declared.fault.Fault.{Fault}
use Rattle.plan.specs.declared.fault.Question.TheVariants.{Space as SpaceQuestion}
use Rattle.entries.specs.declared.node.PlanId.{PlanId}

abbrev pub tree_asked : Model → Plan → List Asked
tree_asked m p = node_asked m.functions p ++ (SpaceQuestion, fits m.used (own_space m.functions p)) ∷ []

-- the new node is behind the others and its own origin; which bytes the text has more is left free
pub record TreeStored (m : Model) (p : Plan) (is : List ℕ) (r : ℕ) (m' : Model) : Type 0 where
  pub number : r ≡ count_of m
  pub functions : m'.functions ≡ m.functions
  pub exprs : m'.exprs ≡ m.exprs
  pub plans : m'.plans ≡ m.plans ++ record { tree = p; origin = count_of m } ∷ []
  pub inputs : m'.inputs ≡ m.inputs ++ is ∷ []
  pub bytes : List ℕ
  pub text : m'.text ≡ m.text ++ bytes
  pub used : m'.used ≡ plus m.used (own_space m.functions p)

abbrev pub TreeMade : Model → Plan → List ℕ → Result PlanId Fault → Model → Type 0
TreeMade m p is (Ok r) m' = (first_no (tree_asked m p) ≡ None) × TreeStored m p is r.0 m'
TreeMade m p is (Err f) m' = (first_no (tree_asked m p) ≡ Some f.question) × (f ≡ refusal f.question) × (m' ≡ m)
