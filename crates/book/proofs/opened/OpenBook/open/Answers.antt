use Rattle.lexicon.specs.Lexicon.{functions_of, text_of}
use Rattle.tables.specs.Holding.{model_of}
use Rattle.book.proofs.Reaching.{reached-opened}
use Rattle.book.proofs.opened.OpenBook.open.Goals as goal

pub invariant_of-result : goal.invariant_of-result
invariant_of-result c = record { reached = reached-opened (model_of c.open.result) (functions_of c.args.lexicon) (text_of c.args.lexicon) c.open.ensures }
