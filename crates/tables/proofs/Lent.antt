-- The terms of the tables, lent: what a call says of them, it says of the tables; cited by the crates above.
use Rattle.std.proofs.Common.{◌≡◌, ℕ, true, List, length, sum_by, ap, ◌∙◌, subst}
use Rattle.table.specs.Contents.{part}
use Rattle.plan.specs.Fields.{any, every}
use Rattle.plan.specs.Functions.{is_total}
use Rattle.plan.specs.Questions.{short_name}
use Rattle.plan.specs.Model.{expr_in, exprs_in}
use Rattle.plan.specs.Calls.{all_below, rendered_bytes}
use Rattle.names.specs.Spans.{word}
use Rattle.names.specs.declared.parts.Span.{Span}
use Rattle.terms.specs.Views.{count, view_of}
use Rattle.entries.specs.declared.node.Entry.{Entry}
use Rattle.entries.specs.declared.node.Run.{Run}
use Rattle.terms.specs.declared.terms.Terms.{Terms}
use Rattle.draft.specs.Drafts.{FieldsFor}
use Rattle.draft.specs.declared.word.DraftField.{DraftField}
use Rattle.tables.specs.Holding.{view_in}
use Rattle.tables.specs.declared.tables.Tables.{Tables}

module _ (t : Tables) (s : Terms) (e : s ≡ t.terms) where
  pub present-lent : (ns : List ℕ) → all_below (length (view_in t).trees) ns ≡ true → all_below (count s) ns ≡ true
  present-lent ns h = ap (λ x. all_below (count x) ns) e ∙ h

  pub total-lent : (i : ℕ) → is_total (view_of s).functions (expr_in (view_of s).trees i) ≡ is_total (view_in t).functions (expr_in (view_in t).trees i)
  total-lent i = ap (λ x. is_total (view_of x).functions (expr_in (view_of x).trees i)) e

  pub totals-lent : (ns : List ℕ) → any (is_total (view_of s).functions) (exprs_in (view_of s).trees ns) ≡ any (is_total (view_in t).functions) (exprs_in (view_in t).trees ns)
  totals-lent ns = ap (λ x. any (is_total (view_of x).functions) (exprs_in (view_of x).trees ns)) e

  pub short-lent : (ns : List ℕ) → every (short_name (view_of s).functions) (exprs_in (view_of s).trees ns) ≡ every (short_name (view_in t).functions) (exprs_in (view_in t).trees ns)
  short-lent ns = ap (λ x. every (short_name (view_of x).functions) (exprs_in (view_of x).trees ns)) e

  pub rendered-lent : (ns : List ℕ) → sum_by (rendered_bytes (view_of s).functions) (exprs_in (view_of s).trees ns) ≡ sum_by (rendered_bytes (view_in t).functions) (exprs_in (view_in t).trees ns)
  rendered-lent ns = ap (λ x. sum_by (rendered_bytes (view_of x).functions) (exprs_in (view_of x).trees ns)) e

  pub fields-lent : (ns : List ℕ) (b a : List DraftField) → FieldsFor (view_of s) (exprs_in (view_of s).trees ns) b a → FieldsFor (view_in t) (exprs_in (view_in t).trees ns) b a
  fields-lent ns b a h = subst (λ x. FieldsFor (view_of x) (exprs_in (view_of x).trees ns) b a) e h

  pub entries-lent : (l : Run) (es : List Entry) → es ≡ part (view_of s).entries l.first l.count → es ≡ part (view_in t).entries l.first l.count
  entries-lent l es h = h ∙ ap (λ x. part (view_of x).entries l.first l.count) e

  pub word-lent : (p : Span) (w : List ℕ) → w ≡ word (view_of s).bytes p → w ≡ word (view_in t).bytes p
  word-lent p w h = h ∙ ap (λ x. word (view_of x).bytes p) e
