-- Generated aliases are new.
--     GeneratedIsNew      the alias of a number that a book may take next, or a higher one within the bound, is no name and no text literal of it
--     GeneratedIsGood      it is a name that an alias may have, with that number
--     NumbersStay      neither extract nor push, nor a push that is tried inside of one, gives a number back, whatever it comes to
use Rattle.std.specs.Prelude.{◌≡◌, ℕ, ◌≤◌, Bool, true, false, List}
use Rattle.std.specs.List.{AllByRecursion}
use Rattle.std.specs.Str.{bytes_eq}
use Rattle.plan.specs.Names.{most_number, number_of, prefixed}
use Rattle.plan.specs.Calls.{good_alias}
use Rattle.plan.specs.Rendering.{unqualified_field}
use Rattle.plan.specs.Model.{Model}
use Rattle.plan.specs.Functions.{Functions}
use Rattle.plan.specs.Plans.{Plan}
use Rattle.plan.specs.Terms.{Field}
use Rattle.rewriting.specs.Generated.{generated, book_names, next_number}
use Rattle.rewriting.specs.Outlay.{Tally}
use Rattle.rewriting.specs.Extracting.{Outcome, built, no_change, refused, extract_from_plan}
use Rattle.rewriting.specs.Routing.{Pair}
use Rattle.rewriting.specs.Pushing.{push}
use Rattle.rewriting.specs.Ring.{push_extraction_pairs, try_push_input}

abbrev pub GeneratedIsNew : Type 0
GeneratedIsNew = (m : Model) (k : ℕ) → next_number m ≤ k → k ≤ most_number → AllByRecursion (λ x. bytes_eq (generated k) x ≡ false) (book_names m)

abbrev pub GeneratedIsGood : Type 0
GeneratedIsGood = (k : ℕ) → k ≤ most_number → (number_of (generated k) ≡ k) × (prefixed (generated k) ≡ true) × (good_alias (unqualified_field (generated k)) ≡ true)

abbrev pub tally_of : Outcome → Tally
tally_of (built p n) = n
tally_of (no_change n) = n
tally_of (refused x n) = n

-- from a tally on, the next number is not lower
unfoldable pub Later : Tally → Outcome → Type 0
Later n o = n.next ≤ (tally_of o).next

pub record NumbersStay : Type 0 where
  pub extracts : (F : Functions) (P : Plan) (n : Tally) → Later n (extract_from_plan F P n)
  pub pushes : (F : Functions) (P : Plan) (n : Tally) → Later n (push F P n)
  pub tries : (F : Functions) (P : Plan) (level : ℕ) (n : Tally) → Later n (try_push_input F P level n)
  pub pairs : (F : Functions) (P : Plan) (ps : List Pair) (cs : List Field) (whole : Bool) (level : ℕ) (n : Tally) → Later n (push_extraction_pairs F P ps cs whole level n)
