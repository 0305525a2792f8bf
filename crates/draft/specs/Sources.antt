-- A draft's words and fields, read from where they are.
--     word_from s w, has_word s w      the word that w names; whether it is where w says
--     owner_from s q, has_owner s q      the qualifier that q stands for; whether its name is where q says
--     field_from s d, has_field s d      the field that d stands for; whether its words are where it says
use Rattle.std.specs.Prelude.{Bool, Option}
use Rattle.plan.specs.Names.{Name}
use Rattle.plan.specs.Terms.{Field, Qualifier}
use Rattle.terms.specs.Views.{view_of}
use Rattle.draft.specs.Drafts.{draft_field, draft_in, owner_at, owner_in, word_at, word_in}
use Rattle.draft.specs.declared.lawful.Source.{Source}
use Rattle.draft.specs.declared.word.Word.{Word}
use Rattle.draft.specs.declared.word.Relation.{Relation}
use Rattle.draft.specs.declared.word.DraftField.{DraftField}

abbrev pub word_from : Source → Word → Name
word_from s w = word_at (view_of s.terms.now) s.owner.now s.given.now w

abbrev pub has_word : Source → Word → Bool
has_word s w = word_in (view_of s.terms.now) s.owner.now s.given.now w

abbrev pub owner_from : Source → Option Relation → Qualifier
owner_from s q = owner_at (view_of s.terms.now) s.owner.now q

abbrev pub has_owner : Source → Option Relation → Bool
has_owner s q = owner_in (view_of s.terms.now) q

abbrev pub field_from : Source → DraftField → Field
field_from s d = draft_field (view_of s.terms.now) s.owner.now s.given.now d

abbrev pub has_field : Source → DraftField → Bool
has_field s d = draft_in (view_of s.terms.now) s.owner.now s.given.now d
