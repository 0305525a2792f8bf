-- What it is to begin with other tables, and to be put back to them; cited by src/terms.
--     TermsBegin s t      t is s and what was put behind it, place for place; the functions are the same
--         (places and not trees: another record of the same tree could name text that is put back)
--     SameTerms s t      the same and nothing behind
--     Begun s m t      m has the counts of s, and t begins with s
use Rattle.std.specs.Prelude.{◌≡◌, length}
use Rattle.lexicon.specs.Lexicon.{text_of}
use Rattle.lexicon.specs.Begun.{Begins, LexiconBegins, SameLexicon}
use Rattle.terms.specs.declared.marks.Marks.{Marks}
use Rattle.terms.specs.declared.terms.Terms.{Terms}

pub record TermsBegin (s t : Terms) : Type 0 where
  pub lexicon : LexiconBegins s.lexicon t.lexicon
  pub exprs : Begins s.exprs t.exprs
  pub entries : Begins s.entries t.entries

pub record SameTerms (s t : Terms) : Type 0 where
  pub lexicon : SameLexicon s.lexicon t.lexicon
  pub exprs : t.exprs ≡ s.exprs
  pub entries : t.entries ≡ s.entries

pub record Begun (s : Terms) (m : Marks) (t : Terms) : Type 0 where
  pub exprs : m.exprs ≡ length s.exprs
  pub entries : m.entries ≡ length s.entries
  pub bytes : m.bytes ≡ length (text_of s.lexicon)
  pub begins : TermsBegin s t
