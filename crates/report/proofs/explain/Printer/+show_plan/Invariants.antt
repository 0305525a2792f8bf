use Rattle.report.proofs.explain.Printer.+show_plan.Given as goal

abbrev pub decreases-show_plan : goal.decreases-show_plan
decreases-show_plan g l = l.levels

abbrev pub invariant-loop-entry : goal.invariant-loop-entry
invariant-loop-entry g l =
    (goal.iterator-loop-entry g).can_next l.entry-iterator ×
    (goal.iterator-loop-entry g).is_finite l.entry-iterator
