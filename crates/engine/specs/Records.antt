-- What the records engine answers.
--     field_of table k name      the value of the first entry of record k and that name, else null
--     get_field table a b      the same of values
--     records table n vs      what a call of number n means
use Rattle.std.specs.Prelude.{ℕ, Bool, cond, ◌&&◌, List, ◌==◌, option_map, unwrap_or}
use Rattle.std.specs.List.{find}
use Rattle.std.specs.Str.{bytes_eq}
use Rattle.plan.specs.Values.{Value}
use Rattle.plan.specs.Values.Value.{null, text, record_number}
use Rattle.value.specs.Meanings.{meaning_of}
use Rattle.engine.specs.declared.records.Entry.{Entry}
use Rattle.engine.specs.Arguments.{of_two}

-- an entry of that record and name
abbrev pub is_of : Entry → ℕ → List ℕ → Bool
is_of e k name = e.owner == k && bytes_eq e.name.now name

-- the first such entry decides
abbrev pub field_of : List ℕ → List ℕ → List Entry → ℕ → List ℕ → Value
field_of book row es k name = unwrap_or (option_map (λ e. meaning_of book row e.value) (find (λ e. is_of e k name) es)) null

-- a record and a text; null at other kinds
abbrev pub get_field : (ℕ → List ℕ → Value) → Value → Value → Value
get_field field (record_number k) (text name) = field k name
get_field _ _ _ = null

-- number 0; a wrong count of arguments and any other number give null
abbrev pub records : (ℕ → List ℕ → Value) → ℕ → List Value → Value
records field n vs = cond (n == 0) (of_two (get_field field) vs) null
