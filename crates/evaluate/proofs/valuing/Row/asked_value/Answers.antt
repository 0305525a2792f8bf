use Rattle.std.proofs.Common.{map, length, ◌∙◌, arith}
use Rattle.entries.specs.Spans.{stored_field}
use Rattle.terms.specs.Views.{tree_of, view_of}
use Rattle.std.proofs.lemmas.List.{length-map}
use Rattle.terms.proofs.Bounds.{small}
use Rattle.value.specs.Meanings.{meaning_of}
use Rattle.evaluate.proofs.Decisions.{row-yes}
use Rattle.evaluate.proofs.Totals.{accepted}
use Rattle.evaluate.proofs.Valued.{same-world}
use Rattle.evaluate.proofs.valuing.Row.asked_value.Goals as goal

pub value_of-requires : goal.value_of-requires
value_of-requires g c =
    let t = c.args.self.now.terms.now in
    let shown = map (stored_field (view_of t).bytes) c.args.self.now.fields.now in
    let yes = row-yes (view_of t).functions shown (tree_of t c.args.e.0) (length c.args.self.now.values.now) (length c.args.scratch.now) c.in_ok-ask.ensures.0 in
    record {
      wide = yes.0 ∙ length-map c.args.self.now.fields.now (stored_field (view_of t).bytes);
      present = c.requires;
      resolved = yes.2;
      room = omega (arith, yes.1, small (view_of t).functions (tree_of t c.args.e.0) (accepted t c.args.e.0 c.requires));
    }

pub returns : goal.returns
returns g c =
    let t = c.args.self.now.terms.now in
    let bs = (view_of t).bytes in
    let row = c.args.self.now.text.now in
    let shown = map (stored_field bs) c.args.self.now.fields.now in
    let vs = map (meaning_of bs row) c.args.self.now.values.now in (
      c.in_ok-ask.ensures.0,
      (λ w p q r. c.value_of.ensures ∙ same-world w shown vs (g.E.Engine.meaning c.args.engine.now) bs row p q r (tree_of t c.args.e.0), c.value_of.auto.scratch),
    )
