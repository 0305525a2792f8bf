-- What spans of a text stand for; cited by src/parts.rt.
--     word text s, span_in text s      the part of the text that a span names; whether it is inside
use Rattle.std.specs.Prelude.{ℕ, ◌+◌, Bool, List, length, nat_le}
use Rattle.table.specs.Contents.{part}
use Rattle.plan.specs.Names.{Name}
use Rattle.names.specs.declared.parts.Span.{Span}

abbrev pub word : List ℕ → Span → Name
word text s = part text s.start s.len

abbrev pub span_in : List ℕ → Span → Bool
span_in text s = nat_le (s.start + s.len) (length text)
