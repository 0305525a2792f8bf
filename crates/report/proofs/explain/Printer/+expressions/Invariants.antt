use Rattle.std.proofs.Common.{◌+◌, ◌*◌}
use Rattle.report.proofs.explain.Printer.+expressions.Given as goal

abbrev pub decreases-show_expr : goal.decreases-show_expr
decreases-show_expr g l = 2 * l.levels

-- a list calls show_expr with the levels that it has
abbrev pub decreases-show_list : goal.decreases-show_list
decreases-show_list g l = 2 * l.levels + 1

abbrev pub invariant-show_list-loop-i : goal.invariant-show_list-loop-i
invariant-show_list-loop-i g l =
    (goal.iterator-show_list-loop-i g).can_next l.i-iterator ×
    (goal.iterator-show_list-loop-i g).is_finite l.i-iterator
