-- What it is for the tables of a book to begin with others, and to be put back to them; cited by src/tables/marking.rt and beside it.
--     TablesBegin s t      t is s and what was put behind it, place for place
--     SameTables s t      the same and nothing behind
--     Begun s m t      m has the counts of s, and t begins with s
use Rattle.std.specs.Prelude.{◌≡◌, length}
use Rattle.lexicon.specs.Begun.{Begins}
use Rattle.terms.specs.Begun.{TermsBegin, SameTerms, Begun as TermsBegun}
use Rattle.tables.specs.declared.marks.Marks.{Marks}
use Rattle.tables.specs.declared.tables.Tables.{Tables}

pub record TablesBegin (s t : Tables) : Type 0 where
  pub terms : TermsBegin s.terms t.terms
  pub fields : Begins s.fields t.fields
  pub plans : Begins s.plans t.plans

pub record SameTables (s t : Tables) : Type 0 where
  pub terms : SameTerms s.terms t.terms
  pub fields : t.fields ≡ s.fields
  pub plans : t.plans ≡ s.plans

pub record Begun (s : Tables) (m : Marks) (t : Tables) : Type 0 where
  pub terms : TermsBegun s.terms m.terms t.terms
  pub fields : m.fields ≡ length s.fields
  pub plans : m.plans ≡ length s.plans
  pub begins : TablesBegin s t
