-- A node that is to be made, over the tables of a book; cited by src/tables/adding.rt and the crates above.
--     tree_for t n      the tree that it would be
--     present t n, well_placed t n      whether what it names is there: question 1; and no total stands in a Projection: question 4
--     node_questions t n      questions 6 to 9 with their answers
--     NodeStored t n r m, NodeMade t n r m      the book with it; what making it comes to
use Rattle.std.specs.Prelude.{◌≡◌, ℕ, Bool, List, [], ◌∷◌, ◌++◌, Some, None, Ok, Err, Result}
use Rattle.plan.specs.Plans.{Plan}
use Rattle.plan.specs.Faults.{Asked, first_no, refusal}
use Rattle.plan.specs.Questions.{node_asked}
use Rattle.plan.specs.Model.{Model, Space, plus, fits}
use Rattle.plan.specs.Calls.{node_outlay}
use Rattle.plan.specs.declared.fault.Fault.{Fault}
use Rattle.plan.specs.declared.fault.Question.TheVariants.{Space as SpaceQuestion}
use Rattle.entries.specs.declared.node.PlanId.{PlanId}
use Rattle.stored.specs.Making.{tree_over, present_in, well_placed_in, inputs_for, entries_for, bytes_for}
use Rattle.stored.specs.declared.node.NewNode.{NewNode}
use Rattle.tables.specs.Holding.{view_in, trees_in, model_of, plan_count}
use Rattle.tables.specs.declared.tables.Tables.{Tables}

abbrev pub tree_for : Tables → NewNode → Plan
tree_for t n = tree_over (view_in t) (plan_count t) (trees_in t) n

-- the same of the tables of a book
abbrev pub present : Tables → NewNode → Bool
present t n = present_in (view_in t) (plan_count t) n

abbrev pub well_placed : Tables → NewNode → Bool
well_placed t n = well_placed_in (view_in t) n

-- the places that it takes
abbrev pub outlay_for : Tables → NewNode → Space
outlay_for t n = node_outlay (view_in t).functions (tree_for t n) (entries_for n) (bytes_for n)

abbrev pub node_questions : Tables → NewNode → List Asked
node_questions t n = node_asked (view_in t).functions (tree_for t n) ++ (SpaceQuestion, fits (model_of t).used (outlay_for t n)) ∷ []

-- the new node is behind the others and its own origin; which bytes the text has more is left free
pub record NodeStored (t : Tables) (n : NewNode) (r : ℕ) (m : Model) : Type 0 where
  pub number : r ≡ plan_count t
  pub functions : m.functions ≡ (model_of t).functions
  pub exprs : m.exprs ≡ (model_of t).exprs
  pub plans : m.plans ≡ (model_of t).plans ++ record { tree = tree_for t n; origin = plan_count t } ∷ []
  pub inputs : m.inputs ≡ (model_of t).inputs ++ inputs_for n ∷ []
  pub bytes : List ℕ
  pub text : m.text ≡ (model_of t).text ++ bytes
  pub used : m.used ≡ plus (model_of t).used (outlay_for t n)

abbrev pub NodeMade : Tables → NewNode → Result PlanId Fault → Model → Type 0
NodeMade t n (Ok p) m = (first_no (node_questions t n) ≡ None) × NodeStored t n p.0 m
NodeMade t n (Err f) m = (first_no (node_questions t n) ≡ Some f.question) × (f ≡ refusal f.question) × (m ≡ model_of t)
