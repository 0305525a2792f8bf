use Rattle.rows.proofs.Theorems.{examples-hold}
use Rattle.rows.proofs.examples_hold.Goals as goal

pub returns : goal.returns
returns c = examples-hold
