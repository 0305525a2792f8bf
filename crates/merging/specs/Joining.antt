-- What joins the list of a Projection; cited by src/joining.rt.
--     within_limits es      there are at most 64 expressions, none of more than 256 nodes
--     too_large      the refusal of a list that is past these limits
--     Listed v es ids      ids stand for the expressions es
--     ListedBy v es r ids      they do; or es are more than 64
--     WithinBy v es r ids      they do; or es are past the limits
use Rattle.std.specs.Prelude.{◌≡◌, ◌<◌, ◌≤◌, Bool, true, false, ◌&&◌, List, length, nat_le, Ok, Err, Result}
use Rattle.plan.specs.Calls.{all_below}
use Rattle.plan.specs.Faults.{fault}
use Rattle.plan.specs.Fields.{every}
use Rattle.plan.specs.Model.{exprs_in}
use Rattle.plan.specs.Questions.{small_tree}
use Rattle.plan.specs.Terms.{Expr}
use Rattle.plan.specs.declared.fault.Fault.{Fault}
use Rattle.plan.specs.declared.fault.Question.TheVariants.{Limited}
use Rattle.plan.specs.declared.fault.Stage.TheVariants.{Merge}
use Rattle.entries.specs.declared.node.ExprId.{ExprId}
use Rattle.terms.specs.Views.{View, numbers_of}

abbrev pub within_limits : List Expr → Bool
within_limits es = nat_le (length es) 64 && every small_tree es

abbrev pub too_large : Fault
too_large = fault Limited Merge 0

pub record Listed (v : View) (es : List Expr) (ids : List ExprId) : Type 0 where
  pub present : all_below (length v.trees) (numbers_of ids) ≡ true
  pub trees : exprs_in v.trees (numbers_of ids) ≡ es
  pub few : length ids ≤ 64

abbrev pub ListedBy : View → List Expr → Result (Unit {0}) Fault → List ExprId → Type 0
ListedBy v es (Ok u) ids = Listed v es ids
ListedBy v es (Err f) ids = (f ≡ too_large) × (64 < length es)

abbrev pub WithinBy : View → List Expr → Result (Unit {0}) Fault → List ExprId → Type 0
WithinBy v es (Ok u) ids = Listed v es ids
WithinBy v es (Err f) ids = (f ≡ too_large) × (within_limits es ≡ false)
