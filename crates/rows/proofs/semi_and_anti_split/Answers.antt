use Rattle.rows.proofs.Theorems.{semi-and-anti-split}
use Rattle.rows.proofs.semi_and_anti_split.Goals as goal

pub returns : goal.returns
returns c = semi-and-anti-split
