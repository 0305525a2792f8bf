use Rattle.std.proofs.Common.{◌≡◌, drop}
use Rattle.plan.specs.Terms.{arguments, same_exprs}
use Rattle.terms.proofs.Walks.{entry_trees}
use Rattle.routing.proofs.same.+same_expr.Given as goal

abbrev pub decreases-same_expr : goal.decreases-same_expr
decreases-same_expr l = l.a.0

-- what is asked of all arguments is asked of those that are left
abbrev pub invariant-loop-i : goal.invariant-loop-i
invariant-loop-i l =
    let ts = entry_trees l.terms l.entry-items in
    let us = entry_trees l.terms l.others in
    same_exprs (arguments ts) (arguments us) ≡ same_exprs (arguments (drop l.i ts)) (arguments (drop l.i us))
