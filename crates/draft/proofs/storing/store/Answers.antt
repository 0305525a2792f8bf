use Rattle.std.proofs.Common.{arith, lit<}
use Rattle.names.specs.Spans.{word}
use Rattle.terms.specs.Views.{view_of}
use Rattle.terms.proofs.Begun.{terms-at-once, terms-then}
use Rattle.draft.proofs.Words.{blank}
use Rattle.draft.proofs.Keeping.{stored-none, stored_more, stored-room, stored-next, stored-count, stored-end}
use Rattle.draft.proofs.storing.store.Goals as goal

pub loop-field-init : goal.loop-field-init
loop-field-init c =
    let v = view_of c.args.terms.now in
    (stored-none v (word v.bytes c.args.lent.owner) (word v.bytes c.args.lent.given) c.args.fields.now, terms-at-once c.args.terms.now)

pub loop-field-preserved : goal.loop-field-preserved
loop-field-preserved c =
    let v = view_of c.args.terms.now in
    (stored_more v _ c.args.lent c.args.draft.now c.loop-field.field-index _ _ _ blank _ _ c.loop-field-test.true c.requires.lent c.requires.inside c.loop-field.invariant.0 c.store_field.ensures.field c.push.ensures, terms-then _ _ _ c.loop-field.invariant.1 c.store_field.ensures.begins)

pub store_field-requires-clause-room : goal.store_field-requires-clause-room
store_field-requires-clause-room c =
    stored-room (view_of c.args.terms.now) _ c.args.lent c.args.draft.now c.loop-field.field-index _ _ blank c.loop-field-test.true c.requires.inside c.requires.bytes c.loop-field.invariant.0

pub store_field-requires-clause-inside : goal.store_field-requires-clause-inside
store_field-requires-clause-inside c =
    stored-next (view_of c.args.terms.now) _ c.args.lent c.args.draft.now c.loop-field.field-index _ _ c.loop-field.invariant.0 _ c.loop-field-test.true c.requires.lent c.requires.inside

pub push-requires : goal.push-requires
push-requires c =
    (lit< tt, omega (arith, stored-count (view_of c.args.terms.now) _ c.args.lent c.args.draft.now c.loop-field.field-index _ _ c.loop-field.invariant.0 (omega (arith, c.loop-field-test.true)), c.loop-field-test.true, c.requires.fields))

pub returns-clause-all : goal.returns-clause-all
returns-clause-all c =
    stored-end (view_of c.args.terms.now) _ c.args.lent c.args.draft.now c.loop-field.field-index _ _ c.loop-field.invariant.0 (omega (arith, c.loop-field-test.false))
