use Rattle.std.proofs.Common.{◌&&◌, sym, ap, ◌∙◌, ap₂}
use Rattle.std.specs.Str.{bytes_eq}
use Rattle.entries.specs.Spans.{stored_field}
use Rattle.terms.specs.Views.{view_of}
use Rattle.routing.proofs.Finding.{means-by}
use Rattle.routing.proofs.seeking.may_mean.Goals as goal

pub returns-then-is_under : goal.returns-then-is_under
returns-then-is_under c =
    let f = stored_field (view_of c.args.terms.now).bytes in
    c.eq.ensures ∙ ap₂ (λ m n. bytes_eq m n) c.word.ensures c.word-then-is_under.ensures
    ∙ sym (means-by (f c.args.reference) (f c.args.field) ∙ ap (λ b. b && bytes_eq (f c.args.reference).name (f c.args.field).name) (sym c.if-is_under.ensures))

pub returns-else-is_under : goal.returns-else-is_under
returns-else-is_under c =
    let f = stored_field (view_of c.args.terms.now).bytes in
    c.if-is_under.false ∙ sym (means-by (f c.args.reference) (f c.args.field) ∙ ap (λ b. b && bytes_eq (f c.args.reference).name (f c.args.field).name) (sym c.if-is_under.ensures))
