-- What the program's values mean, over the book's text and the row text.
--     side_of book row side      one of the two texts
--     part_of bytes start len      the text that a part of the bytes is, or null where it passes their end
--     meaning_of book row v      what a value means
--     bytes_of m      the bytes of a text, if m is one
--     Shows o r      r hands out the bytes of o, or refuses with question 3 where there are none
use Rattle.std.specs.Prelude.{◌≡◌, ℕ, ◌+◌, cond, List, length, take, drop, Some, None, Ok, Err, Option, Result, nat_le}
use Rattle.std.specs.Borrow.{Bor}
use Rattle.plan.specs.Faults.{fault}
use Rattle.plan.specs.Values.{Value as Meaning}
use Rattle.plan.specs.Values.Value.{null, truth, whole, real, text, record_number}
use Rattle.plan.specs.declared.fault.Fault.{Fault}
use Rattle.plan.specs.declared.fault.Question.TheVariants.{Bounded}
use Rattle.plan.specs.declared.fault.Stage.TheVariants.{Call}
use Rattle.value.specs.declared.Side.{Side}
use Rattle.value.specs.declared.Side.TheVariants.{Book, Row}
use Rattle.value.specs.declared.Value.{Value}
use Rattle.value.specs.declared.Value.TheVariants.{Null, Truth, Whole, Real, Text, Record}

-- the text of a side
abbrev pub side_of : List ℕ → List ℕ → Side → List ℕ
side_of book row Book = book
side_of book row Row = row

-- a part of some bytes, null where it passes their end
abbrev pub part_of : List ℕ → ℕ → ℕ → Meaning
part_of bytes start len = cond (nat_le (start + len) (length bytes)) (text (take len (drop start bytes))) null

-- what a value means: a text is its bytes
abbrev pub meaning_of : List ℕ → List ℕ → Value → Meaning
meaning_of book row Null = null
meaning_of book row (Truth b) = truth b
meaning_of book row (Whole n) = whole n
meaning_of book row (Real x) = real x
meaning_of book row (Text t) = part_of (side_of book row t.side) t.start t.len
meaning_of book row (Record k) = record_number k

-- the bytes of a text
abbrev pub bytes_of : Meaning → Option (List ℕ)
bytes_of (text t) = Some t
bytes_of _ = None

-- an answer that lends the bytes, or says that there are none
abbrev pub Shows : Option (List ℕ) → Result (Bor (List ℕ)) Fault → Type 0
Shows o (Ok x) = o ≡ Some x.now
Shows o (Err e) = (o ≡ None) × (e ≡ fault Bounded Call 0)
