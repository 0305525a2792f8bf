use Rattle.rows.proofs.Theorems.{literals-are-themselves}
use Rattle.rows.proofs.literals_are_themselves.Goals as goal

pub returns : goal.returns
returns c = literals-are-themselves
