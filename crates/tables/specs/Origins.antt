-- A node that is given another origin; cited by src/tables/origins.rt.
--     OriginGiven m i o m'      the node i has the origin o, and all else is as it was
use Rattle.std.specs.Prelude.{◌≡◌, ℕ, slice_set}
use Rattle.plan.specs.Model.{Model, tree_at}

pub record OriginGiven (m : Model) (i o : ℕ) (m' : Model) : Type 0 where
  pub functions : m'.functions ≡ m.functions
  pub exprs : m'.exprs ≡ m.exprs
  pub plans : m'.plans ≡ slice_set m.plans i (record { tree = tree_at m i; origin = o })
  pub inputs : m'.inputs ≡ m.inputs
  pub text : m'.text ≡ m.text
  pub used : m'.used ≡ m.used
