-- The two walks of an Aggregate, through its groups and then through its totals; cited by src/aggregate.rt.
--     both_in t i gs us      what they come to over the input i: both lists, and the extractor after the second
--     BothWalked t w r t'      w is what the definitions say: the lists of r stand for the lists of w, no more was used than their places,
--                             and no number came that the walks did not take
--     BothAnswered t w r t'      w is walked, or stopped for the places of both lists, or for a number
use Rattle.std.specs.Prelude.{◌≡◌, true, List, ◌++◌, length, Ok, Err, Result}
use Rattle.entries.specs.declared.node.PlanId.{PlanId}
use Rattle.extracting.specs.Extractors.{Inside, extractor_of}
use Rattle.extracting.specs.Walking.{Grows, Numbered, Stopped, walks_in}
use Rattle.extracting.specs.declared.inputs.Inputs.TheVariants.{One}
use Rattle.plan.specs.Calls.{all_below}
use Rattle.plan.specs.Model.{Within, exprs_in}
use Rattle.plan.specs.Terms.{Expr}
use Rattle.plan.specs.declared.fault.Fault.{Fault}
use Rattle.rewriting.specs.Generated.{next_number}
use Rattle.rewriting.specs.Outlay.{list_space}
use Rattle.rewriting.specs.Routing.{Extractor, empty_extractor}
use Rattle.tables.specs.Holding.{model_of, view_in}
use Rattle.tables.specs.declared.tables.Tables.{Tables}
use Rattle.terms.specs.Views.{numbers_of}
use Rattle.leaf_expressions.specs.declared.aggregate.Routed.{Routed}

abbrev pub both_in : Tables → PlanId → List Expr → List Expr → List Expr × List Expr × Extractor
both_in t i gs us =
    let w = walks_in t (One i) gs (empty_extractor (next_number (model_of t))) in
    let v = walks_in t (One i) us w.1 in
    (w.0, v.0, v.1)

pub record BothWalked (t : Tables) (w : List Expr × List Expr × Extractor) (r : Routed) (t' : Tables) : Type 0 where
  pub groups_in : all_below (length (view_in t').trees) (numbers_of r.groups) ≡ true
  pub totals_in : all_below (length (view_in t').trees) (numbers_of r.totals) ≡ true
  pub groups : exprs_in (view_in t').trees (numbers_of r.groups) ≡ w.0
  pub totals : exprs_in (view_in t').trees (numbers_of r.totals) ≡ w.1
  pub extractor : extractor_of (view_in t') r.extractor ≡ w.2
  pub inside : Inside (view_in t') r.extractor
  pub grows : Grows (model_of t) (model_of t')
  pub numbers : Numbered (model_of t) w.2.next (model_of t')
  pub spent : Within (model_of t).used (list_space (w.0 ++ w.1)) (model_of t').used

abbrev pub BothAnswered : Tables → List Expr × List Expr × Extractor → Result Routed Fault → Tables → Type 0
BothAnswered t w (Ok r) t' = BothWalked t w r t'
BothAnswered t w (Err f) t' = Stopped t (list_space (w.0 ++ w.1)) w.2 f
