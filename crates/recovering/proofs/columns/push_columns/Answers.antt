use Rattle.std.proofs.Common.{◌≡◌, ◌<◌, None, Err, Ok, length, get_or, lit<, map, sym, refl, ap, ◌∙◌, subst, arith, rules}
use Rattle.std.proofs.lemmas.List.{length-map}
use Rattle.entries.specs.Spans.{stored_field, stored_in}
use Rattle.entries.specs.declared.node.StoredField.{StoredField}
use Rattle.lexicon.proofs.Frames.{every-at}
use Rattle.plan.specs.Calls.{good_field}
use Rattle.plan.specs.Fields.{every}
use Rattle.plan.specs.Model.{space}
use Rattle.plan.specs.Terms.Expr.{reference}
use Rattle.rows.specs.Standing.{refs}
use Rattle.stepping.specs.Lists.{ListBy}
use Rattle.tables.proofs.Begun.{tables-then}
use Rattle.tables.specs.Holding.{fields_at, view_in}
use Rattle.recovering.proofs.Listing.{all-made, none-yet, turn-fails, turn-made}
use Rattle.recovering.proofs.Qualifiers.{no_field}
use Rattle.recovering.proofs.Referred.{as-many, at-place, column-built, good-at, reference-space, refs-at}
use Rattle.recovering.proofs.columns.push_columns.Goals as goal

abbrev filler : StoredField
filler = record { qualifier = None; name = record { start = 0; len = 0 } }

pub loop-field-init : goal.loop-field-init
loop-field-init c = none-yet c.args.tables.now (refs (fields_at c.args.tables.now c.args.p.0)) c.args.made.now c.requires.empty

pub column-requires-clause-stored : goal.column-requires-clause-stored
column-requires-clause-stored c =
    let t = c.args.tables.now in
    let p = c.args.p.0 in
    let fs = fields_at t p in
    let xs = c.as_slice-field-items.result.now in
    let u = c.loop-field.tables in
    let i = c.loop-field.field-index in
    let k = c.loop-field.invariant in
    let is = c.as_slice-field-items.ensures in
    let are = ap (map (stored_field (view_in t).bytes)) is ∙ c.fields_apart-fields.ensures.fields in
    let stored = ap (every (stored_in (view_in t).bytes)) is ∙ c.fields_apart-fields.ensures.stored in
    let lt = c.loop-field-test.true in
    (at-place t p xs are stored u k.listed.grows i lt filler _ refl).stored

pub column-requires-clause-good : goal.column-requires-clause-good
column-requires-clause-good c =
    let t = c.args.tables.now in
    let p = c.args.p.0 in
    let fs = fields_at t p in
    let xs = c.as_slice-field-items.result.now in
    let u = c.loop-field.tables in
    let i = c.loop-field.field-index in
    let k = c.loop-field.invariant in
    let is = c.as_slice-field-items.ensures in
    let are = ap (map (stored_field (view_in t).bytes)) is ∙ c.fields_apart-fields.ensures.fields in
    let stored = ap (every (stored_in (view_in t).bytes)) is ∙ c.fields_apart-fields.ensures.stored in
    let lt = c.loop-field-test.true in
    good-at t p u i _ (at-place t p xs are stored u k.listed.grows i lt filler _ refl) c.requires.good

pub returns-in_err-column-clause-answer : goal.returns-in_err-column-clause-answer
returns-in_err-column-clause-answer c =
    let t = c.args.tables.now in
    let p = c.args.p.0 in
    let fs = fields_at t p in
    let xs = c.as_slice-field-items.result.now in
    let u = c.loop-field.tables in
    let i = c.loop-field.field-index in
    let k = c.loop-field.invariant in
    let is = c.as_slice-field-items.ensures in
    let are = ap (map (stored_field (view_in t).bytes)) is ∙ c.fields_apart-fields.ensures.fields in
    let stored = ap (every (stored_in (view_in t).bytes)) is ∙ c.fields_apart-fields.ensures.stored in
    let lt = c.loop-field-test.true in
    let d = c.in_err-column.field-0.0 in
    let is-err : c.from_residual.result ≡ Err d = search rules in
    let f = get_or fs i no_field in
    let a = at-place t p xs are stored u k.listed.grows i lt filler _ refl in
    subst (λ r. ListBy t (refs fs) 0 r c.loop-field.made c.column.new.self) (sym is-err)
    (turn-fails t (refs fs) u i c.loop-field.made k (reference f) (refs-at fs i a.inside) (omega (arith, a.inside, length-map fs reference)) (space 1 0 0 0 0) (reference-space f) d
    (column-built t p u i _ a c.column.new.self (Err d) c.in_err-column.ensures.answer))

pub returns-in_err-column-clause-begins : goal.returns-in_err-column-clause-begins
returns-in_err-column-clause-begins c = tables-then c.args.tables.now c.loop-field.tables c.column.new.self c.loop-field.invariant.begins c.column.ensures.begins

pub returns-in_err-column-clause-few : goal.returns-in_err-column-clause-few
returns-in_err-column-clause-few c = omega (arith, c.loop-field.invariant.counted, c.loop-field-test.true, ap length c.as_slice-field-items.ensures, c.fields_apart-fields.ensures.few)

pub push-requires : goal.push-requires
push-requires c = (lit< tt, omega (arith, c.loop-field.invariant.counted, c.loop-field-test.true, ap length c.as_slice-field-items.ensures, c.fields_apart-fields.ensures.few))

pub loop-field-preserved : goal.loop-field-preserved
loop-field-preserved c =
    let t = c.args.tables.now in
    let p = c.args.p.0 in
    let fs = fields_at t p in
    let xs = c.as_slice-field-items.result.now in
    let u = c.loop-field.tables in
    let i = c.loop-field.field-index in
    let k = c.loop-field.invariant in
    let is = c.as_slice-field-items.ensures in
    let are = ap (map (stored_field (view_in t).bytes)) is ∙ c.fields_apart-fields.ensures.fields in
    let stored = ap (every (stored_in (view_in t).bytes)) is ∙ c.fields_apart-fields.ensures.stored in
    let lt = c.loop-field-test.true in
    let f = get_or fs i no_field in
    let a = at-place t p xs are stored u k.listed.grows i lt filler _ refl in
    let r = c.in_ok-column.column in
    turn-made t (refs fs) u i c.loop-field.made k (reference f) (refs-at fs i a.inside) (omega (arith, a.inside, length-map fs reference)) (space 1 0 0 0 0) (reference-space f) c.column.new.self r c.push.new.self c.push.ensures c.in_ok-column.ensures.begins
    (column-built t p u i _ a c.column.new.self (Ok r) c.in_ok-column.ensures.answer)

pub returns-clause-answer : goal.returns-clause-answer
returns-clause-answer c =
    let t = c.args.tables.now in
    let p = c.args.p.0 in
    let fs = fields_at t p in
    let xs = c.as_slice-field-items.result.now in
    let u = c.loop-field.tables in
    let i = c.loop-field.field-index in
    let k = c.loop-field.invariant in
    let is = c.as_slice-field-items.ensures in
    let are = ap (map (stored_field (view_in t).bytes)) is ∙ c.fields_apart-fields.ensures.fields in
    all-made t (refs fs) u i c.loop-field.made k (omega (arith, c.loop-field-test.false, as-many t p xs are, length-map fs reference))

pub returns-clause-begins : goal.returns-clause-begins
returns-clause-begins c = c.loop-field.invariant.begins

pub returns-clause-few : goal.returns-clause-few
returns-clause-few c = omega (arith, c.loop-field.invariant.counted, c.loop-field.auto.field-index-end, ap length c.as_slice-field-items.ensures, c.fields_apart-fields.ensures.few)
