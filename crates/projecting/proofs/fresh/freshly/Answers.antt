use Rattle.std.proofs.Common.{◌≡◌, length, Err, sym, ap, ◌∙◌, subst, arith, rules}
use Rattle.std.proofs.lemmas.Bool.{le-leb}
use Rattle.std.proofs.lemmas.List.{length-map}
use Rattle.plan.specs.Terms.Expr.{reference}
use Rattle.plan.specs.Fields.{every}
use Rattle.entries.specs.Spans.{stored_field, stored_in}
use Rattle.tables.specs.Holding.{model_of, view_in}
use Rattle.stepping.specs.Steps.{Steps}
use Rattle.projecting.proofs.Freshening.{columns-stop, held-there, many-stop, node-placed, node-present, pairs-stop, projection-made}
use Rattle.projecting.proofs.Listing.{onto-long}
use Rattle.projecting.proofs.fresh.freshly.Goals as goal
use Rattle.projecting.specs.Freshly.{Misfit, fresh_outcome, trees_for}
use Rattle.projecting.specs.Onto.{Onto, fields_in}

pub returns-in_err-push_pairs-clause-steps : goal.returns-in_err-push_pairs-clause-steps
returns-in_err-push_pairs-clause-steps c =
    let t = c.args.tables.now in
    let x = c.args.extractor.now in
    let s = c.args.side in
    let m = model_of c.push_pairs.new.tables in
    let d = c.in_err-push_pairs.field-0.0 in
    let is-err : c.from_residual.result ≡ Err d = search rules in
    subst (λ q. Steps (model_of t) x.next (fresh_outcome t x s c.args.input.0) q m) (sym is-err)
    (pairs-stop t x s c.args.input c.requires.only m d (subst (λ l. Misfit t (length l) (trees_for (view_in t) x s) d) c.new-list.ensures c.in_err-push_pairs.ensures.answer))

pub returns-then-room-len-clause-steps : goal.returns-then-room-len-clause-steps
returns-then-room-len-clause-steps c =
    let t = c.args.tables.now in
    let x = c.args.extractor.now in
    let s = c.args.side in
    let u = c.push_pairs.new.tables in
    let ids = c.push_pairs.new.list in
    let a = subst (λ l. Onto t (trees_for (view_in t) x s) x.next l ids u) c.new-list.ensures c.in_ok-push_pairs.ensures.answer in
    many-stop t x s c.args.input c.requires.only (model_of u) u ids a c.copied_fields-fields.result c.copied_fields-fields.ensures.value c.too_large.result c.too_large.ensures (omega (arith, c.if-room-len.true, c.len.ensures.value, c.room.ensures))

pub push_columns-requires-clause-held : goal.push_columns-requires-clause-held
push_columns-requires-clause-held c =
    let t = c.args.tables.now in
    let x = c.args.extractor.now in
    let s = c.args.side in
    let u = c.push_pairs.new.tables in
    let ids = c.push_pairs.new.list in
    let a = subst (λ l. Onto t (trees_for (view_in t) x s) x.next l ids u) c.new-list.ensures c.in_ok-push_pairs.ensures.answer in
    let gs = c.as_slice.result.now in
    let is = ap (fields_in u) c.as_slice.ensures ∙ c.copied_fields-fields.ensures.value in
    held-there t x s c.args.input u ids a gs is (ap (every (stored_in (view_in u).bytes)) c.as_slice.ensures ∙ c.copied_fields-fields.ensures.stored) c.requires.fields

pub returns-in_err-push_columns-clause-steps : goal.returns-in_err-push_columns-clause-steps
returns-in_err-push_columns-clause-steps c =
    let t = c.args.tables.now in
    let x = c.args.extractor.now in
    let s = c.args.side in
    let u = c.push_pairs.new.tables in
    let ids = c.push_pairs.new.list in
    let m = model_of c.push_columns.new.tables in
    let a = subst (λ l. Onto t (trees_for (view_in t) x s) x.next l ids u) c.new-list.ensures c.in_ok-push_pairs.ensures.answer in
    let gs = c.as_slice.result.now in
    let is = ap (fields_in u) c.as_slice.ensures ∙ c.copied_fields-fields.ensures.value in
    let d = c.in_err-push_columns.field-0.0 in
    let is-err : c.from_residual-in_err-push_columns.result ≡ Err d = search rules in
    subst (λ q. Steps (model_of t) x.next (fresh_outcome t x s c.args.input.0) q m) (sym is-err)
    (columns-stop t x s c.args.input c.requires.only m u ids a gs is d c.in_err-push_columns.ensures.answer)

pub make_at-requires-clause-present : goal.make_at-requires-clause-present
make_at-requires-clause-present c =
    let t = c.args.tables.now in
    let x = c.args.extractor.now in
    let s = c.args.side in
    let u = c.push_pairs.new.tables in
    let ids = c.push_pairs.new.list in
    let a = subst (λ l. Onto t (trees_for (view_in t) x s) x.next l ids u) c.new-list.ensures c.in_ok-push_pairs.ensures.answer in
    let gs = c.as_slice.result.now in
    let is = ap (fields_in u) c.as_slice.ensures ∙ c.copied_fields-fields.ensures.value in
    node-present t x s c.args.input u ids a gs is c.push_columns.new.tables c.push_columns.new.list c.in_ok-push_columns.ensures.answer c.as_slice-2.result c.as_slice-2.ensures c.requires.present

pub make_at-requires-clause-placed : goal.make_at-requires-clause-placed
make_at-requires-clause-placed c =
    let t = c.args.tables.now in
    let x = c.args.extractor.now in
    let s = c.args.side in
    let u = c.push_pairs.new.tables in
    let ids = c.push_pairs.new.list in
    let a = subst (λ l. Onto t (trees_for (view_in t) x s) x.next l ids u) c.new-list.ensures c.in_ok-push_pairs.ensures.answer in
    let gs = c.as_slice.result.now in
    let is = ap (fields_in u) c.as_slice.ensures ∙ c.copied_fields-fields.ensures.value in
    node-placed t x s c.args.input u ids a gs is c.push_columns.new.tables c.push_columns.new.list c.in_ok-push_columns.ensures.answer c.as_slice-2.result c.as_slice-2.ensures c.requires.plain

pub make_at-requires-clause-bounded : goal.make_at-requires-clause-bounded
make_at-requires-clause-bounded c =
    let u = c.push_pairs.new.tables in
    let gs = c.as_slice.result.now in
    le-leb (length c.as_slice-2.result.now) 64
    (omega (arith, ap length c.as_slice-2.ensures, onto-long u c.push_columns.new.tables _ 0 c.push_pairs.new.list c.push_columns.new.list c.in_ok-push_columns.ensures.answer, c.if-room-len.false, c.len.ensures.value, c.room.ensures, ap length c.as_slice.ensures, length-map (fields_in u gs) reference, length-map gs (stored_field (view_in u).bytes)))

pub returns-clause-steps : goal.returns-clause-steps
returns-clause-steps c =
    let t = c.args.tables.now in
    let x = c.args.extractor.now in
    let s = c.args.side in
    let u = c.push_pairs.new.tables in
    let ids = c.push_pairs.new.list in
    let a = subst (λ l. Onto t (trees_for (view_in t) x s) x.next l ids u) c.new-list.ensures c.in_ok-push_pairs.ensures.answer in
    let gs = c.as_slice.result.now in
    let is = ap (fields_in u) c.as_slice.ensures ∙ c.copied_fields-fields.ensures.value in
    projection-made t x s c.args.input u ids a gs is c.push_columns.new.tables c.push_columns.new.list c.in_ok-push_columns.ensures.answer c.as_slice-2.result c.as_slice-2.ensures c.make_at.result (model_of c.make_at.new.tables) c.make_at.ensures.steps
