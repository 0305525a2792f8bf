-- What holds spans of the text, and what it stands for.
--     qualifier_at, stored_field, literal_at      what it stands for
--     qualifier_in, stored_in, literal_in      whether its spans are inside
use Rattle.std.specs.Prelude.{ℕ, ◌^◌, Bool, true, false, ◌&&◌, List, Some, None, Option, nat_lt}
use Rattle.std.specs.Int.Signed.{mag}
use Rattle.names.specs.Spans.{word, span_in}
use Rattle.names.specs.declared.parts.Span.{Span}
use Rattle.plan.specs.Terms.{Field, Qualifier, Literal as Constant}
use Rattle.plan.specs.Terms.Qualifier.{unqualified, qualified}
use Rattle.plan.specs.Terms.Literal.{null, truth, whole, real, text}
use Rattle.entries.specs.declared.node.Literal.{Literal}
use Rattle.entries.specs.declared.node.Literal.TheVariants.{Null, Truth, Whole, Real, Text}
use Rattle.entries.specs.declared.node.StoredField.{StoredField}

abbrev pub qualifier_at : List ℕ → Option Span → Qualifier
qualifier_at bytes None = unqualified
qualifier_at bytes (Some s) = qualified (word bytes s)

abbrev pub qualifier_in : List ℕ → Option Span → Bool
qualifier_in bytes None = true
qualifier_in bytes (Some s) = span_in bytes s

abbrev pub literal_at : List ℕ → Literal → Constant
literal_at bytes Null = null
literal_at bytes (Truth b) = truth b
literal_at bytes (Whole n) = whole n
literal_at bytes (Real x) = real x
literal_at bytes (Text s) = text (word bytes s)

abbrev pub literal_in : List ℕ → Literal → Bool
literal_in bytes Null = true
literal_in bytes (Truth b) = true
literal_in bytes (Whole n) = true
literal_in bytes (Real x) = true
literal_in bytes (Text s) = span_in bytes s

abbrev pub stored_field : List ℕ → StoredField → Field
stored_field bytes f = record { qualifier = qualifier_at bytes f.qualifier; name = word bytes f.name }

abbrev pub stored_in : List ℕ → StoredField → Bool
stored_in bytes f = span_in bytes f.name && qualifier_in bytes f.qualifier

-- a literal that holds no span and fits its type
abbrev pub plain_literal : Literal → Bool
plain_literal Null = true
plain_literal (Truth b) = true
plain_literal (Whole n) = nat_lt (mag n) (2 ^ 63)
plain_literal (Real x) = true
plain_literal (Text s) = false
