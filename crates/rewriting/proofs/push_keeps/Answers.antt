use Rattle.rewriting.proofs.Laws.{push-law}
use Rattle.rewriting.proofs.push_keeps.Goals as goal

pub returns : goal.returns
returns c = push-law
