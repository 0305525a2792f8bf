use Rattle.std.proofs.Common.{◌≡◌, None, Err, sym, subst, lit<, rules}
use Rattle.rows.specs.Standing.{refs}
use Rattle.tables.proofs.Begun.{tables-then}
use Rattle.entries.specs.declared.node.StoredField.{StoredField}
use Rattle.projecting.proofs.Keeping.{column-refused, column-turn, columns-end, good-here, room-here, stored-here}
use Rattle.projecting.proofs.Listing.{partly-start, tables-at-once}
use Rattle.projecting.proofs.columns.push_columns.Goals as goal
use Rattle.projecting.specs.Onto.{OntoBy, fields_in}

abbrev blank : StoredField
blank = record { qualifier = None; name = record { start = 0; len = 0 } }

pub loop-field-init : goal.loop-field-init
loop-field-init c =
    let t = c.args.tables.now in
    record { partly = partly-start t (refs (fields_in t c.args.fields.now)) 0 c.args.list.now; begins = tables-at-once t }

pub column-requires-clause-stored : goal.column-requires-clause-stored
column-requires-clause-stored c =
    stored-here c.args.tables.now c.args.fields.now c.args.list.now c.requires.held c.loop-field.tables c.loop-field.field-index c.loop-field.list c.loop-field.invariant.partly c.loop-field-test.true blank

pub column-requires-clause-good : goal.column-requires-clause-good
column-requires-clause-good c =
    good-here c.args.tables.now c.args.fields.now c.args.list.now c.requires.held c.loop-field.tables c.loop-field.field-index c.loop-field.list c.loop-field.invariant.partly c.loop-field-test.true blank

pub returns-in_err-column-clause-answer : goal.returns-in_err-column-clause-answer
returns-in_err-column-clause-answer c =
    let t = c.args.tables.now in
    let d = c.in_err-column.field-0.0 in
    let is-err : c.from_residual.result ≡ Err d = search rules in
    subst (λ q. OntoBy t (refs (fields_in t c.args.fields.now)) 0 c.args.list.now q c.loop-field.list c.column.new.self) (sym is-err)
    (column-refused t c.args.fields.now c.args.list.now c.requires.held c.loop-field.tables c.loop-field.field-index c.loop-field.list c.loop-field.invariant.partly c.loop-field-test.true blank c.column.new.self d c.in_err-column.ensures.answer)

pub push-requires : goal.push-requires
push-requires c = (
  lit< tt,
  room-here c.args.tables.now c.args.fields.now c.args.list.now c.requires.held c.loop-field.tables c.loop-field.field-index c.loop-field.list c.loop-field.invariant.partly c.loop-field-test.true blank c.requires.room,
)

pub loop-field-preserved : goal.loop-field-preserved
loop-field-preserved c = record {
  partly = column-turn c.args.tables.now c.args.fields.now c.args.list.now c.requires.held c.loop-field.tables c.loop-field.field-index c.loop-field.list c.loop-field.invariant.partly c.loop-field-test.true blank c.column.new.self c.in_ok-column.column c.push.new.self c.in_ok-column.ensures.answer c.push.ensures;
  begins = tables-then c.args.tables.now c.loop-field.tables c.column.new.self c.loop-field.invariant.begins c.in_ok-column.ensures.begins;
}

pub returns-clause-answer : goal.returns-clause-answer
returns-clause-answer c =
    columns-end c.args.tables.now c.args.fields.now c.args.list.now c.requires.held c.loop-field.tables c.loop-field.field-index c.loop-field.list c.loop-field.invariant.partly c.loop-field-test.false
