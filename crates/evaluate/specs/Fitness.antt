-- Whether an engine fits a book.
--     suits_at strict n f      the number n is strict, if its declaration f is
--     suits strict fs      each number that fs declares strict is
--     FitsAll fs meaning      every world of that engine fits fs
use Rattle.std.specs.Prelude.{◌≡◌, ℕ, Bool, not, ◌||◌, Option}
use Rattle.table.specs.Fold.{all_ok}
use Rattle.plan.specs.Functions.{Function, Functions, strict_in}
use Rattle.engine.specs.Strictness.{Meaning}
use Rattle.rows.specs.Worlds.{Fits, World}

abbrev pub suits_at : (ℕ → Bool) → ℕ → Option Function → Bool
suits_at strict n f = not (strict_in f) || strict n

abbrev pub suits : (ℕ → Bool) → Functions → Bool
suits strict fs = all_ok (suits_at strict) 0 fs

-- whatever the texts, the tables, the arranging and the grouping
abbrev pub FitsAll : Functions → Meaning → Type 0
FitsAll fs meaning = (w : World) → w.meaning ≡ meaning → Fits fs w
