use Rattle.rewriting.proofs.Reached.{reached-holds}
use Rattle.rewriting.proofs.reached_books_keep_the_law.Goals as goal

pub returns : goal.returns
returns c = reached-holds
