-- Sort keys as a caller gives them; cited by src/wider.rt.
--     key_pairs ks      each key's expression and direction, as numbers
--     sort_key k      the key with its direction, the first where its number is none
use Rattle.std.specs.Prelude.{ℕ, List, map}
use Rattle.plan.specs.Calls.{direction_in}
use Rattle.plan.specs.Codes.{direction_of}
use Rattle.stored.specs.declared.node.Key.{Key}
use Rattle.stored.specs.declared.node.SortKey.{SortKey}

abbrev pub key_pair : Key → ℕ × ℕ
key_pair k = (k.by.0, k.direction)

abbrev pub key_pairs : List Key → List (ℕ × ℕ)
key_pairs ks = map key_pair ks

abbrev pub sort_key : Key → SortKey
sort_key k = record { by = k.by; direction = direction_in (direction_of k.direction) }
