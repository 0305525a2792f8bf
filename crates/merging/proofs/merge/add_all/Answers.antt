use Rattle.std.proofs.Common.{◌≡◌, true, List, Err, length, map, sym, ap, ◌∙◌, subst, rules}
use Rattle.plan.specs.Calls.{all_below}
use Rattle.plan.specs.Fields.{any, every}
use Rattle.plan.specs.Functions.{is_total}
use Rattle.plan.specs.Model.{exprs_in}
use Rattle.rewriting.specs.Routing.{unalias}
use Rattle.entries.specs.Spans.{stored_field, stored_in}
use Rattle.entries.specs.declared.node.ExprId.{ExprId}
use Rattle.tables.specs.Holding.{view_in}
use Rattle.terms.specs.Views.{count, numbers_of, view_of}
use Rattle.merging.specs.Merging.{AllKnown, AllMerged, needed_at}
use Rattle.merging.specs.declared.replacing.ReplaceMap.{ReplaceMap}
use Rattle.merging.proofs.Whole.{all-merged, has-then, inside-then, known-then, map-in, map-is, pairs-refused, unalias-totals}
use Rattle.merging.proofs.merge.add_all.Goals as goal

pub add_pairs-requires-clause-totals : goal.add_pairs-requires-clause-totals
add_pairs-requires-clause-totals c =
    let t = c.args.tables.now in
    let v = view_in t in
    let F = v.functions in
    let es = exprs_in v.trees (numbers_of c.args.list.now) in
    let behind = ap (λ (l : List ExprId). exprs_in v.trees (numbers_of l)) c.as_slice-3.ensures ∙ subst (λ m. exprs_in (view_of m).trees (numbers_of c.all_unaliased-behind.result) ≡ map unalias (exprs_in (view_of m).trees (numbers_of c.as_slice.result.now))) c.terms.ensures c.all_unaliased-behind.ensures.trees
    ∙ ap (λ (l : List ExprId). map unalias (exprs_in v.trees (numbers_of l))) c.as_slice.ensures in
    ap (any (is_total F)) behind ∙ unalias-totals F es ∙ c.requires.totals

pub returns-in_err-add_pairs-clause-answer : goal.returns-in_err-add_pairs-clause-answer
returns-in_err-add_pairs-clause-answer c =
    let t = c.args.tables.now in
    let v = view_in t in
    let es = exprs_in v.trees (numbers_of c.args.list.now) in
    let m : ReplaceMap = record { fields = c.as_slice-2.result; behind = c.as_slice-3.result } in
    let fields = ap (map (stored_field v.bytes)) c.as_slice-2.ensures ∙ c.copied_fields-fields.ensures.value ∙ c.requires.fields in
    let behind = ap (λ (l : List ExprId). exprs_in v.trees (numbers_of l)) c.as_slice-3.ensures ∙ subst (λ m. exprs_in (view_of m).trees (numbers_of c.all_unaliased-behind.result) ≡ map unalias (exprs_in (view_of m).trees (numbers_of c.as_slice.result.now))) c.terms.ensures c.all_unaliased-behind.ensures.trees
    ∙ ap (λ (l : List ExprId). map unalias (exprs_in v.trees (numbers_of l))) c.as_slice.ensures in
    let is = map-is v m es fields behind in
    let d = c.in_err-add_pairs.field-0.0 in
    let is-err : c.from_residual.result ≡ Err d = search rules in
    subst (λ q. AllMerged t c.args.extractor.now c.args.side c.args.under.0 es q c.add_pairs.new.list c.add_pairs.new.tables) (sym is-err)
    (pairs-refused t c.args.extractor.now c.args.side c.args.under.0 m c.args.list.now is d c.add_pairs.new.list c.add_pairs.new.tables c.in_err-add_pairs.ensures.answer)

pub add_columns-requires-clause-inside : goal.add_columns-requires-clause-inside
add_columns-requires-clause-inside c =
    let t = c.args.tables.now in
    let v = view_in t in
    let es = exprs_in v.trees (numbers_of c.args.list.now) in
    let m : ReplaceMap = record { fields = c.as_slice-2.result; behind = c.as_slice-3.result } in
    let fields = ap (map (stored_field v.bytes)) c.as_slice-2.ensures ∙ c.copied_fields-fields.ensures.value ∙ c.requires.fields in
    let behind = ap (λ (l : List ExprId). exprs_in v.trees (numbers_of l)) c.as_slice-3.ensures ∙ subst (λ m. exprs_in (view_of m).trees (numbers_of c.all_unaliased-behind.result) ≡ map unalias (exprs_in (view_of m).trees (numbers_of c.as_slice.result.now))) c.terms.ensures c.all_unaliased-behind.ensures.trees
    ∙ ap (λ (l : List ExprId). map unalias (exprs_in v.trees (numbers_of l))) c.as_slice.ensures in
    let is = map-is v m es fields behind in
    let inside = map-in v m es fields behind (ap (every (stored_in v.bytes)) c.as_slice-2.ensures ∙ c.copied_fields-fields.ensures.stored)
    (ap (λ (l : List ExprId). all_below (length v.trees) (numbers_of l)) c.as_slice-3.ensures ∙ subst (λ m. all_below (count m) (numbers_of c.all_unaliased-behind.result) ≡ true) c.terms.ensures c.all_unaliased-behind.ensures.present) in
    inside-then t c.args.extractor.now c.args.side c.args.under.0 m c.args.list.now is inside c.requires.extractor c.add_pairs.new.list c.add_pairs.new.tables c.in_ok-add_pairs.ensures.answer

pub add_columns-requires-clause-extractor : goal.add_columns-requires-clause-extractor
add_columns-requires-clause-extractor c =
    let t = c.args.tables.now in
    let v = view_in t in
    let es = exprs_in v.trees (numbers_of c.args.list.now) in
    let m : ReplaceMap = record { fields = c.as_slice-2.result; behind = c.as_slice-3.result } in
    let fields = ap (map (stored_field v.bytes)) c.as_slice-2.ensures ∙ c.copied_fields-fields.ensures.value ∙ c.requires.fields in
    let behind = ap (λ (l : List ExprId). exprs_in v.trees (numbers_of l)) c.as_slice-3.ensures ∙ subst (λ m. exprs_in (view_of m).trees (numbers_of c.all_unaliased-behind.result) ≡ map unalias (exprs_in (view_of m).trees (numbers_of c.as_slice.result.now))) c.terms.ensures c.all_unaliased-behind.ensures.trees
    ∙ ap (λ (l : List ExprId). map unalias (exprs_in v.trees (numbers_of l))) c.as_slice.ensures in
    let is = map-is v m es fields behind in
    let inside = map-in v m es fields behind (ap (every (stored_in v.bytes)) c.as_slice-2.ensures ∙ c.copied_fields-fields.ensures.stored)
    (ap (λ (l : List ExprId). all_below (length v.trees) (numbers_of l)) c.as_slice-3.ensures ∙ subst (λ m. all_below (count m) (numbers_of c.all_unaliased-behind.result) ≡ true) c.terms.ensures c.all_unaliased-behind.ensures.present) in
    has-then t c.args.extractor.now c.args.side c.args.under.0 m c.args.list.now is inside c.requires.extractor c.add_pairs.new.list c.add_pairs.new.tables c.in_ok-add_pairs.ensures.answer

pub add_columns-requires-clause-known : goal.add_columns-requires-clause-known
add_columns-requires-clause-known c =
    let t = c.args.tables.now in
    let v = view_in t in
    let es = exprs_in v.trees (numbers_of c.args.list.now) in
    let m : ReplaceMap = record { fields = c.as_slice-2.result; behind = c.as_slice-3.result } in
    let fields = ap (map (stored_field v.bytes)) c.as_slice-2.ensures ∙ c.copied_fields-fields.ensures.value ∙ c.requires.fields in
    let behind = ap (λ (l : List ExprId). exprs_in v.trees (numbers_of l)) c.as_slice-3.ensures ∙ subst (λ m. exprs_in (view_of m).trees (numbers_of c.all_unaliased-behind.result) ≡ map unalias (exprs_in (view_of m).trees (numbers_of c.as_slice.result.now))) c.terms.ensures c.all_unaliased-behind.ensures.trees
    ∙ ap (λ (l : List ExprId). map unalias (exprs_in v.trees (numbers_of l))) c.as_slice.ensures in
    let is = map-is v m es fields behind in
    let inside = map-in v m es fields behind (ap (every (stored_in v.bytes)) c.as_slice-2.ensures ∙ c.copied_fields-fields.ensures.stored)
    (ap (λ (l : List ExprId). all_below (length v.trees) (numbers_of l)) c.as_slice-3.ensures ∙ subst (λ m. all_below (count m) (numbers_of c.all_unaliased-behind.result) ≡ true) c.terms.ensures c.all_unaliased-behind.ensures.present) in
    known-then t c.args.extractor.now c.args.side c.args.under.0 m c.args.list.now is inside c.requires.extractor c.add_pairs.new.list c.add_pairs.new.tables c.in_ok-add_pairs.ensures.answer (subst (λ fs. AllKnown fs (needed_at v c.args.extractor.now c.args.side)) c.requires.fields c.requires.known)

pub returns-clause-answer : goal.returns-clause-answer
returns-clause-answer c =
    let t = c.args.tables.now in
    let v = view_in t in
    let es = exprs_in v.trees (numbers_of c.args.list.now) in
    let m : ReplaceMap = record { fields = c.as_slice-2.result; behind = c.as_slice-3.result } in
    let fields = ap (map (stored_field v.bytes)) c.as_slice-2.ensures ∙ c.copied_fields-fields.ensures.value ∙ c.requires.fields in
    let behind = ap (λ (l : List ExprId). exprs_in v.trees (numbers_of l)) c.as_slice-3.ensures ∙ subst (λ m. exprs_in (view_of m).trees (numbers_of c.all_unaliased-behind.result) ≡ map unalias (exprs_in (view_of m).trees (numbers_of c.as_slice.result.now))) c.terms.ensures c.all_unaliased-behind.ensures.trees
    ∙ ap (λ (l : List ExprId). map unalias (exprs_in v.trees (numbers_of l))) c.as_slice.ensures in
    let is = map-is v m es fields behind in
    let inside = map-in v m es fields behind (ap (every (stored_in v.bytes)) c.as_slice-2.ensures ∙ c.copied_fields-fields.ensures.stored)
    (ap (λ (l : List ExprId). all_below (length v.trees) (numbers_of l)) c.as_slice-3.ensures ∙ subst (λ m. all_below (count m) (numbers_of c.all_unaliased-behind.result) ≡ true) c.terms.ensures c.all_unaliased-behind.ensures.present) in
    all-merged t c.args.extractor.now c.args.side c.args.under.0 m c.args.list.now is inside c.requires.extractor c.add_pairs.new.list c.add_pairs.new.tables c.in_ok-add_pairs.ensures.answer c.add_columns.result c.add_columns.new.list c.add_columns.ensures
