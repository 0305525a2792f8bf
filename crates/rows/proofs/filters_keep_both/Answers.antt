use Rattle.rows.proofs.Theorems.{filters-keep-both}
use Rattle.rows.proofs.filters_keep_both.Goals as goal

pub returns : goal.returns
returns c = filters-keep-both
