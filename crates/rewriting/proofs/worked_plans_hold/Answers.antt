use Rattle.rewriting.proofs.Worked.{worked-plans-hold}
use Rattle.rewriting.proofs.worked_plans_hold.Goals as goal

pub returns : goal.returns
returns c = worked-plans-hold
