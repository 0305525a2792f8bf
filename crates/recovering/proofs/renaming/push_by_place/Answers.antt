use Rattle.std.proofs.Common.{◌≡◌, ℕ, ◌<◌, ◌≤◌, ◌||◌, Err, Ok, None, Result, length, lit<, get_or, map, sym, refl, ap, ap₂, ◌∙◌, subst, arith, rules}
use Rattle.std.specs.Iterator.Adapters.{zip_first, zip_second}
use Rattle.std.specs.Slice.Iter.{iter_rest}
use Rattle.std.proofs.lemmas.List.{length_push}
use Rattle.std.proofs.lemmas.Slice.Zip.{zip_end, zip_turn}
use Rattle.entries.specs.Spans.{stored_field, stored_in}
use Rattle.entries.specs.declared.node.StoredField.{StoredField}
use Rattle.entries.specs.declared.node.ExprId.{ExprId}
use Rattle.entries.specs.declared.node.PlanId.{PlanId}
use Rattle.extracting.specs.Walking.{BuiltBy}
use Rattle.plan.specs.Calls.{good_alias}
use Rattle.plan.specs.Fields.{every}
use Rattle.plan.specs.Terms.{same_field}
use Rattle.plan.specs.declared.fault.Fault.{Fault}
use Rattle.rewriting.specs.Extracting.{by_place}
use Rattle.rewriting.specs.Generated.{next_number}
use Rattle.rewriting.specs.Outlay.{tree_space}
use Rattle.stepping.proofs.Chain.{at-most-same}
use Rattle.stepping.specs.Lists.{ListBy}
use Rattle.tables.proofs.Begun.{tables-then}
use Rattle.tables.specs.Holding.{fields_at, model_of, view_in}
use Rattle.tables.specs.declared.tables.Tables.{Tables}
use Rattle.recovering.proofs.Listing.{Partly, all-made, none-yet, turn-fails, turn-made}
use Rattle.recovering.proofs.Qualifiers.{no_field}
use Rattle.recovering.proofs.Referred.{At, as-many, at-place, good-at}
use Rattle.recovering.proofs.Renamed.{both-low, placed-at, placed-many, rename-at}
use Rattle.recovering.proofs.renaming.push_by_place.Goals as goal
use Rattle.recovering.proofs.renaming.push_by_place.Goals.{In-None, In-Some}
use Rattle.recovering.specs.Renaming.{placed}

abbrev filler : StoredField
filler = record { qualifier = None; name = record { start = 0; len = 0 } }

here : (c : In-Some) → At c.args.tables.now c.args.old.0 c.loop-name.tables (length c.loop-name.yielded) c.in-Some.name.now × At c.args.tables.now c.args.p.0 c.loop-name.tables (length c.loop-name.yielded) c.in-Some.field.now
here c =
    let t = c.args.tables.now in
    let xs = c.as_slice.result.now in
    let ys = c.as_slice-2.result.now in
    let f = stored_field (view_in t).bytes in
    let p = stored_in (view_in t).bytes in
    let g = c.loop-name.invariant.listed.grows in
    let both = c.into_iter-name-iterator.ensures.into_iter_gives in
    let first : iter_rest (zip_first c.into_iter-name-iterator.result) ≡ xs = cc in
    let second : iter_rest (zip_second c.into_iter-name-iterator.result) ≡ ys = cc (c.zip-name-items.ensures.second.0) in
    let z = zip_turn xs ys c.loop-name.yielded c.into_iter-name-iterator.result c.loop-name.name-iterator c.next.new.self c.next.result first second c.loop-name.yielded_by (c.in-Some.name, c.in-Some.field) c.in-Some.is c.next.ensures.steps in (
      at-place t c.args.old.0 xs (ap (map f) c.as_slice.ensures ∙ c.fields_apart-names.ensures.fields) (ap (every p) c.as_slice.ensures ∙ c.fields_apart-names.ensures.stored) c.loop-name.tables g (length c.loop-name.yielded) z.0 filler c.in-Some.name.now (z.2 filler),
      at-place t c.args.p.0 ys (ap (map f) c.as_slice-2.ensures ∙ c.fields_apart-fields.ensures.fields) (ap (every p) c.as_slice-2.ensures ∙ c.fields_apart-fields.ensures.stored) c.loop-name.tables g (length c.loop-name.yielded) z.1 filler c.in-Some.field.now (z.3 filler),
    )

ended : (c : In-None) → length c.loop-name.yielded ≡ length (fields_at c.args.tables.now c.args.old.0)
ended c =
    let t = c.args.tables.now in
    let xs = c.as_slice.result.now in
    let ys = c.as_slice-2.result.now in
    let f = stored_field (view_in t).bytes in
    let both = c.into_iter-name-iterator.ensures.into_iter_gives in
    let first : iter_rest (zip_first c.into_iter-name-iterator.result) ≡ xs = cc in
    let second : iter_rest (zip_second c.into_iter-name-iterator.result) ≡ ys = cc (c.zip-name-items.ensures.second.0) in
    let z = zip_end xs ys c.loop-name.yielded c.into_iter-name-iterator.result c.loop-name.name-iterator c.next.new.self c.next.result first second c.loop-name.yielded_by c.in-None.is c.next.ensures.steps in
    let m = as-many t c.args.old.0 xs (ap (map f) c.as_slice.ensures ∙ c.fields_apart-names.ensures.fields) in
    let n = as-many t c.args.p.0 ys (ap (map f) c.as_slice-2.ensures ∙ c.fields_apart-fields.ensures.fields) in
    omega (arith, c.requires.as_many)

-- a node has at most 64 fields
few : (c : In-Some) → length (fields_at c.args.tables.now c.args.old.0) ≤ 64
few c = let n = as-many c.args.tables.now c.args.old.0 c.fields_apart-names.result c.fields_apart-names.ensures.fields in omega (arith, n, c.fields_apart-names.ensures.few)

renamed-here : (t u v : Tables) (old p : PlanId) (i : ℕ) (x y : StoredField) → At t old.0 u i x → At t p.0 u i y → (r : Result ExprId Fault)
    → BuiltBy u (tree_space (placed (stored_field (view_in u).bytes x) (stored_field (view_in u).bytes y))) 0 (placed (stored_field (view_in u).bytes x) (stored_field (view_in u).bytes y)) r v
    → BuiltBy u (tree_space (placed (get_or (fields_at t old.0) i no_field) (get_or (fields_at t p.0) i no_field))) 0 (placed (get_or (fields_at t old.0) i no_field) (get_or (fields_at t p.0) i no_field)) r v
renamed-here t u v old p i x y a b r h = subst (λ e. BuiltBy u (tree_space e) 0 e r v) (ap₂ placed a.is b.is) h

pub loop-name-init : goal.loop-name-init
loop-name-init c = none-yet c.args.tables.now (by_place (fields_at c.args.tables.now c.args.old.0) (fields_at c.args.tables.now c.args.p.0)) c.args.made.now c.requires.empty

pub renamed-requires-clause-name : goal.renamed-requires-clause-name
renamed-requires-clause-name c = (here (goal.at.renamed-requires-clause-name c).In-Some).0.stored

pub renamed-requires-clause-field : goal.renamed-requires-clause-field
renamed-requires-clause-field c = (here (goal.at.renamed-requires-clause-field c).In-Some).1.stored

pub renamed-requires-clause-good : goal.renamed-requires-clause-good
renamed-requires-clause-good c = good-at c.args.tables.now c.args.p.0 c.loop-name.tables (length c.loop-name.yielded) c.in-Some.field.now (here (goal.at.renamed-requires-clause-good c).In-Some).1 c.requires.good

pub renamed-requires-clause-fits : goal.renamed-requires-clause-fits
renamed-requires-clause-fits c =
    let h = here (goal.at.renamed-requires-clause-fits c).In-Some in
    let t = c.args.tables.now in
    ap₂ (λ f g. same_field f g || good_alias f) h.0.is h.1.is ∙ rename-at (fields_at t c.args.old.0) (fields_at t c.args.p.0) (length c.loop-name.yielded) h.0.inside h.1.inside c.requires.fits

pub renamed-requires-clause-low : goal.renamed-requires-clause-low
renamed-requires-clause-low c =
    let h = here (goal.at.renamed-requires-clause-low c).In-Some in
    both-low (next_number (model_of c.loop-name.tables)) _ _ h.0.low h.1.low

pub returns-in_err-e-clause-answer : goal.returns-in_err-e-clause-answer
returns-in_err-e-clause-answer c =
    let t = c.args.tables.now in
    let u = c.loop-name.tables in
    let v = c.renamed.new.tables in
    let i = length c.loop-name.yielded in
    let h = here (goal.at.returns-in_err-e-clause-answer c).In-Some in
    let fs = fields_at t c.args.old.0 in
    let gs = fields_at t c.args.p.0 in
    let f = get_or fs i no_field in
    let g = get_or gs i no_field in
    let d = c.in_err-e.field-0.0 in
    let is-err : c.from_residual.result ≡ Err d = search rules in
    subst (λ r. ListBy t (by_place fs gs) 0 r c.loop-name.made v) (sym is-err)
    (turn-fails t (by_place fs gs) u i c.loop-name.made c.loop-name.invariant (placed f g) (placed-at fs gs i h.0.inside h.1.inside) (omega (arith, h.0.inside, placed-many fs gs c.requires.as_many)) (tree_space (placed f g)) (at-most-same (tree_space (placed f g))) d
    (renamed-here t u v c.args.old c.args.p i c.in-Some.name.now c.in-Some.field.now h.0 h.1 (Err d) c.in_err-e.ensures.answer))

pub returns-in_err-e-clause-few : goal.returns-in_err-e-clause-few
returns-in_err-e-clause-few c = omega (arith, c.loop-name.invariant.counted, (here (goal.at.returns-in_err-e-clause-few c).In-Some).0.inside, few (goal.at.returns-in_err-e-clause-few c).In-Some)

pub returns-in_err-e-clause-begins : goal.returns-in_err-e-clause-begins
returns-in_err-e-clause-begins c = tables-then c.args.tables.now c.loop-name.tables c.renamed.new.tables c.loop-name.invariant.begins c.in_err-e.ensures.begins

pub push-requires : goal.push-requires
push-requires c = (lit< tt, omega (arith, c.loop-name.invariant.counted, (here (goal.at.push-requires c).In-Some).0.inside, few (goal.at.push-requires c).In-Some))

pub loop-name-preserved : goal.loop-name-preserved
loop-name-preserved c =
    let t = c.args.tables.now in
    let u = c.loop-name.tables in
    let v = c.renamed.new.tables in
    let i = length c.loop-name.yielded in
    let h = here (goal.at.loop-name-preserved c).In-Some in
    let fs = fields_at t c.args.old.0 in
    let gs = fields_at t c.args.p.0 in
    let f = get_or fs i no_field in
    let g = get_or gs i no_field in
    let r = c.in_ok-e.e in
    subst (λ k. Partly t (by_place fs gs) v k c.push.new.self) (omega (arith, length_push c.loop-name.yielded (c.in-Some.name, c.in-Some.field)))
    (turn-made t (by_place fs gs) u i c.loop-name.made c.loop-name.invariant (placed f g) (placed-at fs gs i h.0.inside h.1.inside) (omega (arith, h.0.inside, placed-many fs gs c.requires.as_many)) (tree_space (placed f g)) (at-most-same (tree_space (placed f g))) v r c.push.new.self c.push.ensures c.in_ok-e.ensures.begins
    (renamed-here t u v c.args.old c.args.p i c.in-Some.name.now c.in-Some.field.now h.0 h.1 (Ok r) c.in_ok-e.ensures.answer))

pub returns-clause-answer : goal.returns-clause-answer
returns-clause-answer c =
    let t = c.args.tables.now in
    let fs = fields_at t c.args.old.0 in
    let gs = fields_at t c.args.p.0 in
    all-made t (by_place fs gs) c.loop-name.tables (length c.loop-name.yielded) c.loop-name.made c.loop-name.invariant (omega (arith, ended (goal.at.returns-clause-answer c).In-None, placed-many fs gs c.requires.as_many))

pub returns-clause-few : goal.returns-clause-few
returns-clause-few c =
    let t = c.args.tables.now in
    let many = as-many t c.args.old.0 c.fields_apart-names.result c.fields_apart-names.ensures.fields in
    omega (arith, c.loop-name.invariant.counted, ended (goal.at.returns-clause-few c).In-None, many, c.fields_apart-names.ensures.few)

pub returns-clause-begins : goal.returns-clause-begins
returns-clause-begins c = c.loop-name.invariant.begins
