use Rattle.std.proofs.Common.{◌≡◌, length}
use Rattle.book.specs.Opened.{book_of}
use Rattle.trials.specs.Trials.{Adds}
use Rattle.trials.proofs.totals.Given as goal

abbrev pub invariant-loop-i : goal.invariant-loop-i
invariant-loop-i l = (length l.out ≡ 17) × Adds (book_of l.initial.book) l.out l.i (book_of l.book)
