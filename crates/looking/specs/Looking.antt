-- What a reading call answers; cited by src/reader/reading.rt.
--     Looked qs P r      the first question answered no refuses; otherwise P of the answer
--     entry_count t      how many list entries there are
--     field_in t p i      the field at a place of a node
use Rattle.std.specs.Prelude.{ℕ, List, [], length, Result, slice_index_or}
use Rattle.plan.specs.Terms.{Field}
use Rattle.plan.specs.Terms.Qualifier.{unqualified}
use Rattle.plan.specs.Faults.{Asked, Settled}
use Rattle.plan.specs.declared.fault.Fault.{Fault}
use Rattle.tables.specs.Holding.{view_in, fields_at}
use Rattle.tables.specs.declared.tables.Tables.{Tables}

abbrev pub Looked : {A : Type 0} → List Asked → (A → Type 0) → Result A Fault → Type 0
Looked qs P r = Settled qs P (Unit {0}) r

abbrev pub entry_count : Tables → ℕ
entry_count t = length (view_in t).entries

abbrev pub no_field : Field
no_field = record { qualifier = unqualified; name = [] }

abbrev pub field_in : Tables → ℕ → ℕ → Field
field_in t p i = slice_index_or (fields_at t p) i no_field
