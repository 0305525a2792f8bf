use Rattle.std.proofs.Common.{◌≡◌, map, take}
use Rattle.plan.specs.Model.{expr_in}
use Rattle.rows.specs.Rows.{value_in}
use Rattle.entries.specs.Entries.{entry_number}
use Rattle.entries.specs.Spans.{stored_field}
use Rattle.terms.specs.Views.{view_of}
use Rattle.value.specs.Meanings.{meaning_of}
use Rattle.evaluate.specs.Evaluating.{bare}
use Rattle.evaluate.proofs.valuing.Row.+value_of.Given as goal

abbrev pub decreases-value_of : goal.decreases-value_of
decreases-value_of g l = l.e.0

abbrev pub invariant-loop-i : goal.invariant-loop-i
invariant-loop-i g l =
    let v = view_of l.self.terms.now in
    let m = meaning_of v.bytes l.self.text.now in
    let w = bare (g.E.Engine.meaning l.engine) v.bytes l.self.text.now in
    map m (take l.i l.front) ≡ map (value_in w (map (stored_field v.bytes) l.self.fields.now) (map m l.self.values.now)) (take l.i (map (expr_in v.trees) (map entry_number l.entry-items)))
