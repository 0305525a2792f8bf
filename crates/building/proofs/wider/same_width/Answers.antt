use Rattle.std.proofs.Common.{eqb, length, sym, ap, ◌∙◌, ap₂}
use Rattle.std.proofs.lemmas.List.{length-map}
use Rattle.entries.specs.Spans.{stored_field}
use Rattle.tables.specs.Holding.{view_in}
use Rattle.building.proofs.wider.same_width.Goals as goal

pub returns : goal.returns
returns c =
    let f = stored_field (view_in c.args.tables.now).bytes in
    ap₂ eqb (sym (length-map c.fields_of.result.now f) ∙ ap length c.fields_of.ensures.value) (sym (length-map c.fields_of-2.result.now f) ∙ ap length c.fields_of-2.ensures.value)
