use Rattle.std.proofs.Common.{rules}
use Rattle.engine.proofs.arithmetic.plus_whole.Goals.{then-n-lt0, else-n-lt0}
use Rattle.engine.proofs.arithmetic.plus_whole.Goals as goal

pub returns-then-fits : goal.returns-then-fits
returns-then-fits c =
    elim c.if-n-lt0.branch [ then-n-lt0 w ↦ search rules | else-n-lt0 w ↦ search rules ]
