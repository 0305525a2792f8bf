use Rattle.rewriting.proofs.Book.{law}
use Rattle.rewriting.proofs.calls_keep_the_law.Goals as goal

pub returns : goal.returns
returns c = law
