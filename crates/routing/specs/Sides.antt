-- Inputs and their columns; cited by src/owning.rt.
--     side_of s      which input it is in the definitions
--     column_of r f      the reference r is the field f, or its name without qualifier
use Rattle.std.specs.Prelude.{Bool, ◌||◌}
use Rattle.plan.specs.Plans.{without_qualifier}
use Rattle.plan.specs.Terms.{Field, same_field}
use Rattle.rewriting.specs.Routing.{Side, one, two}
use Rattle.routing.specs.declared.owning.Side.{Side as Given}
use Rattle.routing.specs.declared.owning.Side.TheVariants.{First, Second}

abbrev pub side_of : Given → Side
side_of First = one
side_of Second = two

abbrev pub column_of : Field → Field → Bool
column_of r f = same_field r f || same_field r (without_qualifier f)
