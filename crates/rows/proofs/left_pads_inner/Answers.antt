use Rattle.rows.proofs.Theorems.{left-pads-inner}
use Rattle.rows.proofs.left_pads_inner.Goals as goal

pub returns : goal.returns
returns c = left-pads-inner
