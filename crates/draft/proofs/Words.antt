-- What the words of a draft stand for.
use Rattle.std.proofs.Common.{◌≡◌, ℕ, ◌<◌, ◌≤◌, List, refl, arith, Some, None, Option}
use Rattle.plan.specs.Model.{no_expr}
use Rattle.terms.specs.Acceptance.{acceptable}
use Rattle.terms.specs.Build.{width_of}
use Rattle.entries.specs.Spans.{qualifier_at, qualifier_in}
use Rattle.terms.specs.Views.{View, view_of, tree_of, count}
use Rattle.names.specs.declared.parts.Span.{Span}
use Rattle.terms.specs.declared.terms.Terms.{Terms}
use Rattle.terms.proofs.Bounds.{small, width-le}
use Rattle.lexicon.proofs.Frames.{every-at}
use Rattle.draft.specs.Drafts.{owner_at, owner_in, drafted, kept_qualifier}
use Rattle.draft.specs.declared.word.Word.TheVariants.{Stored}
use Rattle.draft.specs.declared.word.DraftField.{DraftField}

-- no rendered name is longer than a buffer
pub short : (t : Terms) (i : ℕ) → i < count t → width_of (view_of t).functions (tree_of t i) ≤ 130816
short t i lt =
    let v = view_of t in
    let ok = every-at (acceptable v.functions) v.trees i no_expr lt t.accepted in
    omega (arith, width-le v.functions t.lexicon.good (tree_of t i) ok, small v.functions (tree_of t i) ok)

-- a stored qualifier as it is
pub owner-kept : (v : View) (o : List ℕ) (q : Option Span) → (owner_at v o (kept_qualifier q) ≡ qualifier_at v.bytes q) × (owner_in v (kept_qualifier q) ≡ qualifier_in v.bytes q)
owner-kept v o None = (refl, refl)
owner-kept v o (Some s) = (refl, refl)

-- what stands past the end of a draft
abbrev pub blank : DraftField
blank = drafted None (Stored (record { start = 0; len = 0 }))
