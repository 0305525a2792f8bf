use Rattle.rewriting.specs.Book.Request.{build}
use Rattle.rewriting.proofs.Reached.{reached-further}
use Rattle.book.proofs.opened.OpenBook.null.Goals as goal

pub invariant_of-self : goal.invariant_of-self
invariant_of-self c = record { reached = reached-further _ _ (build _) _ c.args.self.now.reached c.literal.ensures.answer }
