-- What an extractor over the tables stands for; cited by src/extractor.
--     entry_of v d, need_of v n      an expression that was taken out, and a column that is needed, as the definitions have them
--     entries_of v x, needs_of v x, extractor_of v x      all of them; all of the extractor
--     Inside v x      its expressions stand in the tables, its aliases have numbers that an alias may have and that are below the next one, and its columns are inside the text
--     needing s fs g, renewed g      an extractor that needs the columns fs too; one that has taken something out
use Rattle.std.specs.Prelude.{◌≡◌, ℕ, Bool, true, false, ◌&&◌, List, map, length, nat_lt}
use Rattle.plan.specs.Fields.{every}
use Rattle.plan.specs.Model.{expr_in}
use Rattle.plan.specs.Terms.{Field}
use Rattle.rewriting.specs.Generated.{countable, generated}
use Rattle.rewriting.specs.Routing
use Rattle.rewriting.specs.Routing.{Entry, Side, needs}
use Rattle.routing.specs.Sides.{side_of}
use Rattle.entries.specs.Spans.{stored_field, stored_in}
use Rattle.terms.specs.Views.{View}
use Rattle.extracting.specs.declared.extractor.Extracted.{Extracted}
use Rattle.extracting.specs.declared.extractor.Extractor.{Extractor}
use Rattle.extracting.specs.declared.extractor.Needed.{Needed}

abbrev pub entry_of : View → Extracted → Entry
entry_of v d = (side_of d.side, expr_in v.trees d.inner.0, generated d.alias)

abbrev pub need_of : View → Needed → Side × Field
need_of v n = (side_of n.side, stored_field v.bytes n.field)

abbrev pub entries_of : View → Extractor → List Entry
entries_of v x = map (entry_of v) x.entries

abbrev pub needs_of : View → Extractor → List (Side × Field)
needs_of v x = map (need_of v) x.needed

-- a number past the bound is refused, so that it is never full
abbrev pub extractor_of : View → Extractor → Routing.Extractor
extractor_of v x = record { entries = entries_of v x; needed = needs_of v x; next = x.next; new = x.is_new; full = false }

abbrev pub entry_in : View → Extracted → Bool
entry_in v d = nat_lt d.inner.0 (length v.trees) && countable d.alias

abbrev pub need_in : View → Needed → Bool
need_in v n = stored_in v.bytes n.field

abbrev pub is_before : ℕ → Extracted → Bool
is_before n d = nat_lt d.alias n

pub record Inside (v : View) (x : Extractor) : Type 0 where
  pub entries : every (entry_in v) x.entries ≡ true
  pub needed : every (need_in v) x.needed ≡ true
  pub earlier : every (is_before x.next) x.entries ≡ true

abbrev pub needing : Side → List Field → Routing.Extractor → Routing.Extractor
needing s fs g = record { entries = g.entries; needed = needs s fs g.needed; next = g.next; new = g.new; full = g.full }

abbrev pub renewed : Routing.Extractor → Routing.Extractor
renewed g = record { entries = g.entries; needed = g.needed; next = g.next; new = true; full = g.full }
