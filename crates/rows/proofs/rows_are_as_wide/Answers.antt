use Rattle.rows.proofs.Theorems.{rows-are-as-wide}
use Rattle.rows.proofs.rows_are_as_wide.Goals as goal

pub returns : goal.returns
returns c = rows-are-as-wide
