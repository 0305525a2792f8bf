use Rattle.rewriting.specs.Book.Request.{swap}
use Rattle.rewriting.proofs.Reached.{reached-further}
use Rattle.book.proofs.opened.OpenBook.swap.Goals as goal

pub invariant_of-self : goal.invariant_of-self
invariant_of-self c = record { reached = reached-further _ _ (swap _ _ _) _ c.args.self.now.reached c.swap.ensures }
