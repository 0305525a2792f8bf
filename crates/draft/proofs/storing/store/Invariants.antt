use Rattle.std.proofs.Common.{take}
use Rattle.names.specs.Spans.{word}
use Rattle.terms.specs.Views.{view_of}
use Rattle.terms.specs.Begun.{TermsBegin}
use Rattle.draft.specs.Drafts.{StoredAll}
use Rattle.draft.proofs.storing.store.Given as goal

abbrev pub invariant-loop-field : goal.invariant-loop-field
invariant-loop-field l =
    (StoredAll (view_of l.initial.terms) (word (view_of l.initial.terms).bytes l.lent.owner) (word (view_of l.initial.terms).bytes l.lent.given) (take l.field-index l.draft) l.initial.fields (view_of l.terms) l.fields) × TermsBegin l.initial.terms l.terms
