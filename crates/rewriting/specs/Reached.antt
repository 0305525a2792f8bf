-- Books that were reached by calls: what an open book may promise of itself.
--     Reached s      some book was opened, and some list of calls led to s, whatever else their swaps left
--     ReachedHolds      the law holds of every such book, and one more call keeps it so
use Rattle.std.specs.Prelude.{ℕ, List}
use Rattle.plan.specs.Functions.{Functions}
use Rattle.plan.specs.Calls.{Answer}
use Rattle.plan.specs.Model.{Model, Space}
use Rattle.rewriting.specs.Book.{Request, Step, Answers, LooseAnswers, LooseRun, Agree, opened}

abbrev pub Reached : Model → Type 0
Reached s = ∥ ((F : Functions) × (text : List ℕ) × (used : Space) × (ss : List Step) × LooseRun (opened F text used) ss s) ∥₁

pub record ReachedHolds : Type 0 where
  pub start : (F : Functions) (text : List ℕ) (used : Space) → Reached (opened F text used)
  pub further : (s s' : Model) (c : Request) (a : Answer) → Reached s → Answers s c a s' → Reached s'
  pub loosely : (s s' : Model) (c : Request) (a : Answer) → Reached s → LooseAnswers s c a s' → Reached s'
  pub agree : (s : Model) → Reached s → Agree s
