-- What an open book holds and promises; cited by src/opened.
--     book_of b      what it holds, as contracts speak of it
--     SameReport m i j      two nodes have the same fields and, in every world that fits, the same rows; every reference means one field
--     Told m i j r      whether two nodes have one origin; refused if one does not stand in the book
use Rattle.std.specs.Prelude.{◌≡◌, ℕ, Bool, [], ◌∷◌, Result, ◌==◌}
use Rattle.plan.specs.Calls.{below}
use Rattle.plan.specs.Faults.{Settled}
use Rattle.plan.specs.Model.{Model, count_of, origin_at, tree_at}
use Rattle.plan.specs.declared.fault.Fault.{Fault}
use Rattle.plan.specs.declared.fault.Question.TheVariants.{Present}
use Rattle.rows.specs.Standing.{Same}
use Rattle.rewriting.specs.Laws.{Resolved}
use Rattle.tables.specs.Holding.{model_of}
use Rattle.book.specs.declared.opened.OpenBook.{OpenBook}

abbrev pub book_of : OpenBook → Model
book_of b = model_of b.tables

pub record SameReport (m : Model) (i j : ℕ) : Type 0 where
  pub same : Same m.functions (tree_at m i) (tree_at m j)
  pub resolved : Resolved m.functions (tree_at m i) × Resolved m.functions (tree_at m j)

abbrev pub Told : Model → ℕ → ℕ → Result Bool Fault → Type 0
Told m i j r =
    Settled ((Present, below (count_of m) i) ∷ (Present, below (count_of m) j) ∷ []) (λ b. b ≡ (origin_at m i == origin_at m j)) (Unit {0}) r
