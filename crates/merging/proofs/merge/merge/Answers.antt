use Rattle.std.proofs.Common.{◌≡◌, not, List, Err, sym, ap, ap₂, ◌∙◌, subst, rules}
use Rattle.plan.specs.Fields.{any}
use Rattle.plan.specs.Functions.{is_total}
use Rattle.plan.specs.Model.{exprs_in}
use Rattle.plan.specs.Plans.Plan.{projection}
use Rattle.plan.specs.declared.fault.Stage.TheVariants.{Merge}
use Rattle.rewriting.specs.Extracting.{made}
use Rattle.entries.specs.declared.node.ExprId.{ExprId}
use Rattle.stepping.specs.Steps.{Steps}
use Rattle.stepping.specs.Lists.{at_side}
use Rattle.tables.specs.Holding.{fields_at, model_of, tree_in, view_in}
use Rattle.terms.specs.Build.{numbers_in}
use Rattle.terms.specs.Views.{numbers_of, view_of}
use Rattle.merging.specs.Merging.{merged_outcome, needed_at}
use Rattle.merging.proofs.Plain.{merged-plain}
use Rattle.merging.proofs.Stepping.{stepped, stopped}
use Rattle.merging.proofs.merge.merge.Goals as goal

pub returns-in_err-add_all-clause-steps : goal.returns-in_err-add_all-clause-steps
returns-in_err-add_all-clause-steps c =
    let t = c.args.tables.now in
    let x = c.args.extractor.now in
    let u = c.add_all.new.tables in
    let l = c.args.list in
    let is = ap (exprs_in (view_in t).trees) (c.listed-merged.ensures.numbers ∙ ap (λ m. numbers_in (view_of m).entries l.first l.count) c.terms.ensures) in
    let d = c.in_err-add_all.field-0.0 in
    let is-err : c.from_residual.result ≡ Err d = search rules in
    subst (λ q. Steps (model_of t) x.next (merged_outcome t x c.args.side c.args.under l) q (model_of u)) (sym is-err)
    (stopped t x c.args.side c.args.under l c.listed-merged.result is c.requires.only d c.add_all.new.list u (model_of u) c.in_err-add_all.ensures.answer)

pub make_at-requires-clause-placed : goal.make_at-requires-clause-placed
make_at-requires-clause-placed c =
    let t = c.args.tables.now in
    let v = view_in t in
    let x = c.args.extractor.now in
    let u = c.add_all.new.tables in
    let l = c.args.list in
    let is = ap (exprs_in v.trees) (c.listed-merged.ensures.numbers ∙ ap (λ m. numbers_in (view_of m).entries l.first l.count) c.terms.ensures) in
    let a = c.in_ok-add_all.ensures.answer in
    let es = exprs_in v.trees (numbers_of c.listed-merged.result) in
    let plain = merged-plain v.functions (fields_at t c.args.under.0) es (at_side v x c.args.side) (needed_at v x c.args.side) (ap (any (is_total v.functions)) is ∙ c.requires.totals) c.requires.plain in
    ap (λ (ids : List ExprId). not (any (is_total (view_in u).functions) (exprs_in (view_in u).trees (numbers_of ids)))) c.as_slice.ensures
    ∙ ap₂ (λ G ds. not (any (is_total G) ds)) a.grows.functions a.trees ∙ ap not plain

pub returns-clause-steps : goal.returns-clause-steps
returns-clause-steps c =
    let t = c.args.tables.now in
    let x = c.args.extractor.now in
    let u = c.add_all.new.tables in
    let l = c.args.list in
    let is = ap (exprs_in (view_in t).trees) (c.listed-merged.ensures.numbers ∙ ap (λ m. numbers_in (view_of m).entries l.first l.count) c.terms.ensures) in
    stepped t x c.args.side c.args.under l c.listed-merged.result is c.add_all.new.list u c.in_ok-add_all.ensures.answer c.make_at.result (model_of c.make_at.new.tables)
    (subst (λ (ids : List ExprId). Steps (model_of u) 0 (made (view_in u).functions Merge 0 (projection (exprs_in (view_in u).trees (numbers_of ids)) (tree_in u c.args.under.0))) c.make_at.result (model_of c.make_at.new.tables)) c.as_slice.ensures c.make_at.ensures.steps)
