-- Lists of expressions that are made for a node.
--     ListMade t es low ids t'      ids stand for the expressions es, no more than their places were used, and no name has a number from low on that was not there
--     ListBy t es low r ids t'      it is so; or the places of es do not fit
--     at_side v x s      the pairs that the extractor x has for the input s
--     NoTotals F ps      no expression of the pairs is a total
use Rattle.std.specs.Prelude.{◌≡◌, ℕ, true, false, List, length, Ok, Err, Result}
use Rattle.extracting.specs.Extractors.{entries_of}
use Rattle.extracting.specs.Walking.{Grows, NoRoom, Numbered}
use Rattle.extracting.specs.declared.extractor.Extractor.{Extractor}
use Rattle.std.specs.List.{AllByRecursion}
use Rattle.plan.specs.Calls.{all_below}
use Rattle.plan.specs.Functions.{Functions, is_total}
use Rattle.plan.specs.Model.{Within, exprs_in}
use Rattle.plan.specs.Terms.{Expr}
use Rattle.plan.specs.declared.fault.Fault.{Fault}
use Rattle.rewriting.specs.Outlay.{list_space}
use Rattle.rewriting.specs.Routing.{Pair, pairs_of}
use Rattle.routing.specs.Sides.{side_of}
use Rattle.routing.specs.declared.owning.Side.{Side}
use Rattle.tables.specs.Holding.{model_of, view_in}
use Rattle.terms.specs.Views.{View, numbers_of}
use Rattle.entries.specs.declared.node.ExprId.{ExprId}
use Rattle.tables.specs.declared.tables.Tables.{Tables}

pub record ListMade (t : Tables) (es : List Expr) (low : ℕ) (ids : List ExprId) (t' : Tables) : Type 0 where
  pub present : all_below (length (view_in t').trees) (numbers_of ids) ≡ true
  pub trees : exprs_in (view_in t').trees (numbers_of ids) ≡ es
  pub grows : Grows (model_of t) (model_of t')
  pub spent : Within (model_of t).used (list_space es) (model_of t').used
  pub numbers : Numbered (model_of t) low (model_of t')

abbrev pub ListBy : Tables → List Expr → ℕ → Result (Unit {0}) Fault → List ExprId → Tables → Type 0
ListBy t es low (Ok v) ids t' = ListMade t es low ids t'
ListBy t es low (Err f) ids t' = NoRoom t (list_space es) f

abbrev pub NoTotals : Functions → List Pair → Type 0
NoTotals F ps = AllByRecursion (λ d. is_total F d.0 ≡ false) ps

abbrev pub at_side : View → Extractor → Side → List Pair
at_side v x s = pairs_of (side_of s) (entries_of v x)
