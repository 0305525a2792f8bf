-- The numbers of the codes; cited by Rule, JoinKind and Direction in src/code.rt.
--     rule_of n, join_kind_of n, direction_of n      the code of a number, if there is one
use Rattle.std.specs.Prelude.{ℕ, cond, Some, None, Option, ◌==◌}
use Rattle.plan.specs.declared.code.Rule.{Rule}
use Rattle.plan.specs.declared.code.Rule.TheVariants.{Stay, FirstColumn, AnyColumn, Always, Total}
use Rattle.plan.specs.declared.code.JoinKind.{JoinKind}
use Rattle.plan.specs.declared.code.JoinKind.TheVariants.{Inner, Left, Right, Full, LeftSemi, LeftAnti, RightSemi, RightAnti}
use Rattle.plan.specs.declared.code.Direction.{Direction}
use Rattle.plan.specs.declared.code.Direction.TheVariants.{AscendingNullsFirst, AscendingNullsLast, DescendingNullsFirst, DescendingNullsLast}

abbrev pub rule_of : ℕ → Option Rule
rule_of n =
    cond (n == 0) (Some Stay) (cond (n == 1) (Some FirstColumn) (cond (n == 2) (Some AnyColumn) (cond (n == 3) (Some Always) (cond (n == 4) (Some Total) None))))

abbrev pub join_kind_of : ℕ → Option JoinKind
join_kind_of n =
    cond (n == 0) (Some Inner) (cond (n == 1) (Some Left) (cond (n == 2) (Some Right) (cond (n == 3) (Some Full)
    (cond (n == 4) (Some LeftSemi) (cond (n == 5) (Some LeftAnti) (cond (n == 6) (Some RightSemi) (cond (n == 7) (Some RightAnti) None)))))))

abbrev pub direction_of : ℕ → Option Direction
direction_of n =
    cond (n == 0) (Some AscendingNullsFirst) (cond (n == 1) (Some AscendingNullsLast) (cond (n == 2) (Some DescendingNullsFirst) (cond (n == 3) (Some DescendingNullsLast) None)))
