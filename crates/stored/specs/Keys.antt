-- Sort keys as entries of a list.
--     key_entry k      the entry that a key is stored as
--     key_of e      the key that an entry is read as
use Rattle.entries.specs.Entries.{expr_of}
use Rattle.entries.specs.declared.node.Entry.{Entry}
use Rattle.entries.specs.declared.node.Entry.TheVariants.{Key}
use Rattle.stored.specs.Stored.{entry_direction}
use Rattle.stored.specs.declared.node.SortKey.{SortKey}

abbrev pub key_entry : SortKey → Entry
key_entry k = Key k.by k.direction

abbrev pub key_of : Entry → SortKey
key_of e = record { by = expr_of e; direction = entry_direction e }
