use Rattle.std.proofs.Common.{map, length, ap, ◌∙◌, arith, lit<}
use Rattle.std.proofs.lemmas.Bool.{leb-true}
use Rattle.table.proofs.Parts.{length_part}
use Rattle.plan.specs.Fields.{every}
use Rattle.entries.specs.Spans.{stored_field, stored_in}
use Rattle.tables.specs.Holding.{view_in}
use Rattle.stored.proofs.PlanFrames.{every-part}
use Rattle.tables.proofs.tables.Tables.fields_of.Goals as goal

pub part-requires : goal.part-requires
part-requires c = (lit< tt, leb-true _ _ c.record_of.ensures.run)

pub returns : goal.returns
returns c =
    let t = c.args.self.now in
    let r = c.record_of.result.fields in
    let e = c.part.ensures in
    record {
      value = ap (map (stored_field (view_in t).bytes)) e ∙ c.record_of.ensures.fields;
      stored = ap (every (stored_in (view_in t).bytes)) e ∙ every-part (stored_in (view_in t).bytes) t.fields r.first r.count t.stored;
      few = omega (arith, ap length e, length_part t.fields r.first r.count (leb-true _ _ c.record_of.ensures.run), c.record_of.ensures.few);
    }
