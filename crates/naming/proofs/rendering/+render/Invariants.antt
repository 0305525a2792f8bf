use Rattle.std.proofs.Common.{◌≡◌, ◌++◌, map, take}
use Rattle.plan.specs.Model.{expr_in}
use Rattle.plan.specs.Rendering.{rendered_all}
use Rattle.plan.specs.Terms.{arguments}
use Rattle.entries.specs.Entries.{entry_number}
use Rattle.terms.specs.Views.{view_of}
use Rattle.naming.proofs.rendering.+render.Given as goal

abbrev pub decreases-render : goal.decreases-render
decreases-render l = l.e.0

abbrev pub invariant-loop-i : goal.invariant-loop-i
invariant-loop-i l = l.out ≡ l.initial.out ++ rendered_all (view_of l.terms).functions (arguments (take l.i (map (expr_in (view_of l.terms).trees) (map entry_number l.entry-items))))
