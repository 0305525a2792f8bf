-- What is known of an input after what was taken out for it was put under aliases over it.
use Rattle.std.proofs.Common.{◌≡◌, ℕ, ◌+◌, ◌<◌, ◌≤◌, max, List, [], ◌∷◌, length, Ok, Result, sym, refl, ap, ap₂, ◌∙◌, subst, arith}
use Rattle.std.specs.List.{AllByRecursion}
use Rattle.entries.specs.declared.node.PlanId.{PlanId}
use Rattle.extracting.proofs.Spaces.{within-same}
use Rattle.plan.specs.Functions.{Functions}
use Rattle.plan.specs.Model.{Model, Space, count_of, tree_at}
use Rattle.plan.specs.Plans.{Plan, fields_of}
use Rattle.plan.specs.Terms.{Field}
use Rattle.rewriting.proofs.Extracts.{Placed, Widens, extracted-placed}
use Rattle.rewriting.specs.Extracting.{Outcome, build_extraction_projection, built}
use Rattle.rewriting.specs.Generated.{next_number}
use Rattle.rewriting.specs.Laws.{Gives}
use Rattle.rewriting.specs.Outlay.{Tally, nothing}
use Rattle.rewriting.specs.Routing.{Pair}
use Rattle.rows.specs.Standing.{Good, Known}
use Rattle.tables.proofs.Inputs.{tree-at}
use Rattle.tables.specs.Holding.{fields_at, model_of, plan_count, tree_in, view_in}
use Rattle.tables.specs.declared.tables.Tables.{Tables}
use Rattle.stepping.specs.Steps.{AllGood, Extends, Start, Steps, Stood}

-- a tally to begin with
abbrev pub some_tally : Model → ℕ → Tally
some_tally m low = record { next = max low (next_number m); spent = nothing }

pub some-start : (m : Model) (low : ℕ) → Start m low m.used (some_tally m low)
some-start m low = record { spent = within-same m.used nothing; least = omega arith; numbers = omega arith }

pub record Projected (t : Tables) (i : ℕ) (r : ℕ) (u : Tables) : Type 0 where
  pub present : r < plan_count u
  pub extends : Extends (model_of t) (model_of u)
  pub good : AllGood (model_of u)
  pub widens : Widens (fields_at u r) (fields_at t i)

pub projected : (t u : Tables) (i low : ℕ) (ps : List Pair) (cs : List Field) (r : PlanId) → AllGood (model_of t) → i < plan_count t → AllByRecursion (λ d. Known (fields_at t i) d.0) ps
    → Steps (model_of t) low (build_extraction_projection (view_in t).functions 0 (tree_in t i) ps cs) (Ok r) (model_of u) → Projected t i r.0 u
projected t u i low ps cs r good lt known s =
    let m = model_of t in
    let F = (view_in t).functions in
    let n = some_tally m low in
    let h = s m.used n (some-start m low) in
    let here : Good F (tree_in t i) = subst (Good F) (tree-at t i) (good i lt) in
    let p : Placed F h.0 (tree_in t i) ps = subst (λ o. Gives (λ R. Placed F R (tree_in t i) ps) o) h.2 (extracted-placed F (tree_in t i) here ps cs n known) in
    record {
      present = h.4.present;
      extends = h.4.extends;
      good = h.4.extends.good good;
      widens = subst (λ fs. Widens fs (fields_at t i)) (sym (ap₂ fields_of h.4.extends.functions (sym (tree-at u r.0) ∙ h.4.tree))) p.widens;
    }
