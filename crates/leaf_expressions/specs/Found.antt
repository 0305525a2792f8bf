-- What a walk has found for an input, and what is built of it; cited by src/extraction.rt and src/over.rt.
--     needed_at v x s      the columns that the extractor x needs of the input s
--     projected t x s i n      the node i with what x has for the input s put under aliases over it, from the tally n on
--     Found t x s i      that Projection is refused by question 8 or by none; what it takes out and needs is known over the node i, and no total is taken out
--     over_one t x i fs b n, over_two t x l r fs b n      the inputs with what was found, and the node b rebuilt over them with the fields fs
--     Wider fs gs      the same fields, or more
--     Renamed fs gs      fields as many as before may have their names
use Rattle.std.specs.Prelude.{◌≡◌, ℕ, ◌<◌, true, ◌⊎◌, List, length}
use Rattle.std.specs.List.{AllByRecursion}
use Rattle.extracting.specs.Extractors.{needs_of}
use Rattle.extracting.specs.declared.extractor.Extractor.{Extractor}
use Rattle.plan.specs.Plans.{Plan}
use Rattle.plan.specs.Terms.{Field}
use Rattle.plan.specs.Terms.Expr.{reference}
use Rattle.recovering.specs.Renaming.{can_rename}
use Rattle.rewriting.specs.Extracting.{Outcome, and_then, build_extraction_projection, build_extraction_projection_impl, rebuilt}
use Rattle.rewriting.specs.Limits.{OnlyEight}
use Rattle.rewriting.specs.Outlay.{Tally}
use Rattle.rewriting.specs.Routing.{needed_of}
use Rattle.rows.specs.Standing.{Known}
use Rattle.routing.specs.Sides.{side_of}
use Rattle.routing.specs.declared.owning.Side.{Side}
use Rattle.routing.specs.declared.owning.Side.TheVariants.{First, Second}
use Rattle.stepping.specs.Lists.{NoTotals, at_side}
use Rattle.tables.specs.Holding.{fields_at, tree_in, view_in}
use Rattle.tables.specs.declared.tables.Tables.{Tables}
use Rattle.terms.specs.Views.{View}

abbrev pub needed_at : View → Extractor → Side → List Field
needed_at v x s = needed_of (side_of s) (needs_of v x)

abbrev pub projected : Tables → Extractor → Side → ℕ → Tally → Outcome
projected t x s i n = build_extraction_projection (view_in t).functions 0 (tree_in t i) (at_side (view_in t) x s) (needed_at (view_in t) x s) n

pub record Found (t : Tables) (x : Extractor) (s : Side) (i : ℕ) : Type 0 where
  pub only : OnlyEight (view_in t).functions (build_extraction_projection_impl (view_in t).functions (tree_in t i) (at_side (view_in t) x s) (needed_at (view_in t) x s))
  pub known : AllByRecursion (λ d. Known (fields_at t i) d.0) (at_side (view_in t) x s)
  pub plain : NoTotals (view_in t).functions (at_side (view_in t) x s)
  pub columns : AllByRecursion (λ c. Known (fields_at t i) (reference c)) (needed_at (view_in t) x s)

abbrev pub over_one : Tables → Extractor → ℕ → List Field → (Plan → Plan) → Tally → Outcome
over_one t x i fs b n = and_then (projected t x First i n) (λ r m. rebuilt (view_in t).functions 0 fs (b r) m)

abbrev pub over_two : Tables → Extractor → ℕ → ℕ → List Field → (Plan → Plan → Plan) → Tally → Outcome
over_two t x l r fs b n = and_then (projected t x First l n) (λ p m. and_then (projected t x Second r m) (λ q o. rebuilt (view_in t).functions 0 fs (b p q) o))

abbrev pub Wider : List Field → List Field → Type 0
Wider fs gs = (fs ≡ gs) ⊎ (length gs < length fs)

abbrev pub Renamed : List Field → List Field → Type 0
Renamed fs gs = length fs ≡ length gs → can_rename fs gs ≡ true
