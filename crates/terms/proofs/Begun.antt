-- Tables that begin with others.
use Rattle.std.proofs.Common.{refl}
use Rattle.lexicon.proofs.Begun.{at-once, begins-then, lexicon-then}
use Rattle.terms.specs.Begun.{TermsBegin}
use Rattle.terms.specs.declared.terms.Terms.{Terms}

pub terms-at-once : (t : Terms) → TermsBegin t t
terms-at-once t = record { lexicon = record { functions = refl; text = at-once t.lexicon.text }; exprs = at-once t.exprs; entries = at-once t.entries }

pub terms-then : (s t u : Terms) → TermsBegin s t → TermsBegin t u → TermsBegin s u
terms-then s t u a b = record {
  lexicon = lexicon-then s.lexicon t.lexicon u.lexicon a.lexicon b.lexicon;
  exprs = begins-then s.exprs t.exprs u.exprs a.exprs b.exprs;
  entries = begins-then s.entries t.entries u.entries a.entries b.entries;
}
