-- What a row holds. A text is its bytes and there is one not-a-number, so equal values are one value.
--     Value      null, a truth, a whole number, a real, a text or a record number
--     value_of l      the value of a literal
--     is_true, is_null_value      tests of a value
use Rattle.std.specs.Prelude.{ℕ, Bool, true, false, List, ℤ, Float}
use Rattle.plan.specs.Terms.{Literal}
use Rattle.plan.specs.Terms.Literal.{null as null_literal, truth as truth_literal, whole as whole_literal, real as real_literal, text as text_literal}

pub data Value : Type 0 where
  null : Value
  truth : Bool → Value
  whole : ℤ → Value
  real : Float → Value
  text : List ℕ → Value
  record_number : ℕ → Value

abbrev pub value_of : Literal → Value
value_of null_literal = null
value_of (truth_literal b) = truth b
value_of (whole_literal n) = whole n
value_of (real_literal x) = real x
value_of (text_literal t) = text t

abbrev pub is_true : Value → Bool
is_true null = false
is_true (truth b) = b
is_true (whole n) = false
is_true (real x) = false
is_true (text t) = false
is_true (record_number n) = false

abbrev pub is_null_value : Value → Bool
is_null_value null = true
is_null_value (truth b) = false
is_null_value (whole n) = false
is_null_value (real x) = false
is_null_value (text t) = false
is_null_value (record_number n) = false
