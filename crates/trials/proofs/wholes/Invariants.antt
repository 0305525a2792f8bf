use Rattle.std.proofs.Common.{◌≡◌, ◌++◌, length}
use Rattle.book.specs.Opened.{book_of}
use Rattle.trials.specs.Trials.{Adds, wholes_to}
use Rattle.trials.proofs.wholes.Given as goal

abbrev pub invariant-loop-i : goal.invariant-loop-i
invariant-loop-i l =
    (length l.out ≡ 65) × Adds (book_of l.initial.book) l.out l.i (book_of l.book)
    × ((book_of l.book).exprs ≡ (book_of l.initial.book).exprs ++ wholes_to l.i)
