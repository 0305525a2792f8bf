use Rattle.rewriting.proofs.Book.{law as TheLaw}
use Rattle.book.specs.Opened.{book_of}
use Rattle.book.proofs.Reaching.{told_same}
use Rattle.book.proofs.opened.OpenBook.same_report.Goals as goal

pub returns : goal.returns
returns c =
    let b = c.args.self.now in
    record {
      told = c.ask_origin.ensures;
      same = told_same (book_of b) c.args.a.0 c.args.b.0 c.ask_origin.result b.reached c.ask_origin.ensures;
      law = TheLaw;
    }
