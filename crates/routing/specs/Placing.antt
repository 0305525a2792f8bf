-- What the cases of ExpressionPlacement are in the definitions; cited by src/placement.rt.
use Rattle.plan.specs.Functions.{Placement}
use Rattle.plan.specs.Functions.Placement.{column, constant, marked, keep}
use Rattle.routing.specs.declared.placement.ExpressionPlacement.{ExpressionPlacement}
use Rattle.routing.specs.declared.placement.ExpressionPlacement.TheVariants.{Literal, Column, MoveTowardsLeafNodes, KeepInPlace}

abbrev pub named : ExpressionPlacement → Placement
named Literal = constant
named Column = column
named MoveTowardsLeafNodes = marked
named KeepInPlace = keep
