use Rattle.std.proofs.Common.{◌≡◌, take, drop}
use Rattle.book.specs.Opened.{book_of}
use Rattle.rewriting.specs.Book.{Run}
use Rattle.replay.specs.Acts.{steps_of}
use Rattle.replay.proofs.performing.replay.Given as goal

abbrev pub invariant-loop-i : goal.invariant-loop-i
invariant-loop-i l = Run (book_of l.initial.book) (steps_of (take l.i l.acts) (take l.i l.answers)) (book_of l.book) × (drop l.i l.answers ≡ drop l.i l.initial.answers)
