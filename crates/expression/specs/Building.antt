-- What the calls that make an expression answer and leave; cited by src/building.rt and src/calling.rt.
--     bare v      a book with these expressions and nothing else
--     roomy v s      the tables of expressions have room for so much more
--     Grew v c r v', Kept v c f v'      a call that made an expression; a call that was refused
--     Answered v c r v'      either
--     given_field, given_literal      a field and a literal as a caller gives them
use Rattle.std.specs.Prelude.{◌≡◌, ℕ, ◌+◌, Bool, ◌&&◌, List, [], ◌∷◌, ◌++◌, length, Some, None, Ok, Err, Option, Result, nat_le}
use Rattle.std.specs.Borrow.{Bor}
use Rattle.plan.specs.Terms.{Field, Literal, Qualifier}
use Rattle.plan.specs.Terms.Literal.{null, truth, whole, real, text}
use Rattle.plan.specs.Terms.Qualifier.{unqualified, qualified}
use Rattle.plan.specs.Faults.{Asked, first_no, refusal}
use Rattle.plan.specs.Model.{Space, space, Model}
use Rattle.plan.specs.Calls.{Call, asked, new_exprs, outlay}
use Rattle.plan.specs.declared.fault.Fault.{Fault}
use Rattle.plan.specs.declared.fault.Question.TheVariants.{Space as SpaceQuestion}
use Rattle.terms.specs.Views.{View, grown}
use Rattle.entries.specs.declared.node.Entry.{Entry}
use Rattle.entries.specs.declared.node.ExprId.{ExprId}
use Rattle.expression.specs.declared.building.GivenLiteral.{GivenLiteral}
use Rattle.expression.specs.declared.building.GivenLiteral.TheVariants.{Null, Truth, Whole, Real, Text}

abbrev pub bare : View → Model
bare v = record { functions = v.functions; exprs = v.trees; plans = []; inputs = []; text = v.bytes; used = space 0 0 0 0 0 }

abbrev pub roomy : View → Space → Bool
roomy v s = nat_le (length v.trees + s.exprs) 1024 && (nat_le (length v.entries + s.entries) 2048 && nat_le (length v.bytes + s.bytes) 16384)

-- the questions of a call, the last for space
abbrev pub all_asked_of : View → Call → List Asked
all_asked_of v c = asked (bare v) c ++ (SpaceQuestion, roomy v (outlay (bare v) c)) ∷ []

pub record Grew (v : View) (c : Call) (r : ℕ) (v' : View) : Type 0 where
  pub accepted : first_no (all_asked_of v c) ≡ None
  pub number : r ≡ length v.trees
  pub bytes : List ℕ
  pub entries : List Entry
  pub view : v' ≡ grown v (new_exprs (bare v) c) bytes entries
  pub bytes_used : length bytes ≡ (outlay (bare v) c).bytes
  pub entries_used : length entries ≡ (outlay (bare v) c).entries

abbrev pub Kept : View → Call → Fault → View → Type 0
Kept v c f v' = (first_no (all_asked_of v c) ≡ Some f.question) × (f ≡ refusal f.question) × (v' ≡ v)

abbrev pub Answered : View → Call → Result ExprId Fault → View → Type 0
Answered v c (Ok r) v' = Grew v c r.0 v'
Answered v c (Err f) v' = Kept v c f v'

-- a qualifier as a caller gives it
abbrev pub given_qualifier : Option (Bor (List ℕ)) → Qualifier
given_qualifier None = unqualified
given_qualifier (Some q) = qualified q.now

abbrev pub given_field : List ℕ → Option (Bor (List ℕ)) → Field
given_field name q = record { qualifier = given_qualifier q; name = name }

-- the bytes that a field takes in the text: its name, then its qualifier
abbrev pub qualifier_text : Qualifier → List ℕ
qualifier_text unqualified = []
qualifier_text (qualified q) = q

-- a literal as a caller gives it
abbrev pub given_literal : GivenLiteral → Literal
given_literal Null = null
given_literal (Truth b) = truth b
given_literal (Whole n) = whole n
given_literal (Real x) = real x
given_literal (Text bytes) = text bytes.now
