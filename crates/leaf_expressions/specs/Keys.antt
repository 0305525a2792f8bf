-- Sort keys by other expressions; cited by src/sort.rt.
--     keys_with ks es      the keys ks, each by its expression of es and in its own direction
use Rattle.std.specs.Prelude.{List, [], ◌∷◌}
use Rattle.entries.specs.declared.node.ExprId.{ExprId}
use Rattle.stored.specs.declared.node.SortKey.{SortKey}

abbrev pub keys_with : List SortKey → List ExprId → List SortKey
keys_with [] es = []
keys_with (k ∷ ks) [] = []
keys_with (k ∷ ks) (e ∷ es) = record { by = e; direction = k.direction } ∷ keys_with ks es
