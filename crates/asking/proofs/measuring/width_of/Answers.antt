use Rattle.std.proofs.Common.{length, sym, ap, ◌∙◌}
use Rattle.std.proofs.lemmas.List.{length-map}
use Rattle.entries.specs.Spans.{stored_field}
use Rattle.tables.specs.Holding.{view_in}
use Rattle.asking.proofs.measuring.width_of.Goals as goal

pub returns : goal.returns
returns c =
    record {
      value = sym (length-map c.fields_of.result.now (stored_field (view_in c.args.tables.now).bytes)) ∙ ap length c.fields_of.ensures.value;
      bound = c.fields_of.ensures.few;
    }
