use Rattle.std.proofs.Common.{arith}
use Rattle.draft.proofs.Words.{short}
use Rattle.draft.proofs.reading.rendered_len.Goals as goal

pub returns-in-Constant-clause-bound : goal.returns-in-Constant-clause-bound
returns-in-Constant-clause-bound c = omega (arith, c.width.ensures, short c.args.terms.now c.args.e.0 c.requires)
