use Rattle.std.proofs.Common.{arith}
use Rattle.names.specs.declared.TheConstants.{NUMBER_CAP}
use Rattle.numbering.specs.Own.{own_names}
use Rattle.numbering.proofs.Highest.{capped-turn}
use Rattle.numbering.proofs.Capped.{capped-none}
use Rattle.plan.specs.Model.{no_expr}
use Rattle.terms.specs.Views.{view_of}
use Rattle.numbering.proofs.next.highest_in_exprs.Goals as goal

pub loop-e-init : goal.loop-e-init
loop-e-init c = capped-none

pub loop-e-preserved : goal.loop-e-preserved
loop-e-preserved c =
    capped-turn NUMBER_CAP own_names (view_of c.args.terms.now).trees c.loop-e.e c.loop-e.highest c.expr_number.result c.max-highest.result no_expr (omega (arith, c.loop-e-test.true, c.len-e-end.ensures.value)) c.loop-e.invariant c.expr_number.ensures (omega arith)
