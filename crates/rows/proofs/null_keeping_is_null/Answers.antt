use Rattle.rows.proofs.Theorems.{null-keeping-is-null}
use Rattle.rows.proofs.null_keeping_is_null.Goals as goal

pub returns : goal.returns
returns c = null-keeping-is-null
