use Rattle.std.proofs.Common.{None, sym, ◌∙◌, ap₂, arith}
use Rattle.std.specs.Str.{bytes_eq}
use Rattle.table.proofs.Loops.{counted-yes, counted-no}
use Rattle.plan.specs.Fields.{named}
use Rattle.entries.specs.Spans.{stored_field}
use Rattle.names.specs.Spans.{word}
use Rattle.terms.specs.Views.{view_of}
use Rattle.entries.specs.declared.node.StoredField.{StoredField}
use Rattle.naming.proofs.resolving.count_named.Goals as goal
use Rattle.naming.proofs.resolving.count_named.Goals.{then-eq, else-eq}

abbrev blank : StoredField
blank = record { qualifier = None; name = record { start = 0; len = 0 } }

pub loop-i-preserved : goal.loop-i-preserved
loop-i-preserved c =
    let bs = (view_of c.args.terms.now).bytes in
    let p = named (word bs c.args.name) in
    elim c.if-eq.branch [
      | then-eq w ↦ (counted-yes p (stored_field bs) c.args.fields.now c.loop-i.i blank c.loop-i-test.true c.loop-i.count _ c.loop-i.invariant.0 (ap₂ bytes_eq (sym c.word.ensures) (sym c.word-in-loop-i.ensures) ∙ sym c.eq.ensures ∙ w.if-eq.true) w.count-is, omega (arith, w.count-is, c.loop-i.invariant.1))
      | else-eq w ↦ (counted-no p (stored_field bs) c.args.fields.now c.loop-i.i blank c.loop-i-test.true c.loop-i.count _ c.loop-i.invariant.0 (ap₂ bytes_eq (sym c.word.ensures) (sym c.word-in-loop-i.ensures) ∙ sym c.eq.ensures ∙ w.if-eq.false) w.count-is, omega (arith, w.count-is, c.loop-i.invariant.1))
    ]
