use Rattle.std.proofs.Common.{◌≡◌, Err, sym, ap, ◌∙◌, subst, arith, rules}
use Rattle.recovering.proofs.Rebuilt.{more-nodes}
use Rattle.rewriting.specs.Extracting.{rebuilt}
use Rattle.stepping.specs.Steps.{Buildable, Steps}
use Rattle.stored.specs.Making.{bounded, well_named}
use Rattle.tables.specs.Holding.{fields_at, model_of, view_in}
use Rattle.tables.specs.Making.{present, tree_for, well_placed}
use Rattle.leaf_expressions.proofs.Covered.{facts, over-err, over-fits, over-ok}
use Rattle.leaf_expressions.proofs.Shaped.{node-bounded, node-kind, node-named, node-placed, node-present, shape-there, totals-stay}
use Rattle.leaf_expressions.proofs.over.rebuilt_over.Goals as goal
use Rattle.leaf_expressions.specs.Found.{Renamed, over_one}
use Rattle.leaf_expressions.specs.Shapes.{tree_with}
use Rattle.plan.specs.Plans.{fields_of}

pub returns-in_err-over-clause-steps : goal.returns-in_err-over-clause-steps
returns-in_err-over-clause-steps c =
    let t = c.args.tables.now in
    let x = c.args.extractor.now in
    let m = model_of c.build_extraction_projection.new.tables in
    let e = c.in_err-over.field-0.0 in
    let is-err : c.from_residual.result ≡ Err e = search rules in
    subst (λ r. Steps (model_of t) x.next (over_one t x c.args.input.0 (fields_at t c.args.p.0) (tree_with (view_in t) c.args.shape)) r m) (sym is-err)
    (over-err t x c.args.p c.args.input c.args.shape e m m c.in_err-over.ensures.steps)

pub rebuilt-requires-clause-present : goal.rebuilt-requires-clause-present
rebuilt-requires-clause-present c =
    let t = c.args.tables.now in
    let u = c.build_extraction_projection.new.tables in
    let f = facts t c.args.extractor.now c.args.p c.args.input c.args.shape c.requires.good c.requires.input c.requires.node c.requires.found c.requires.there u c.in_ok-over.over c.in_ok-over.ensures.steps in
    ap (present u) c.over.ensures ∙ node-present u c.in_ok-over.over c.args.shape (shape-there t u f.extends c.args.shape c.requires.there) f.present

pub rebuilt-requires-clause-bounded : goal.rebuilt-requires-clause-bounded
rebuilt-requires-clause-bounded c = ap bounded c.over.ensures ∙ node-bounded c.build_extraction_projection.new.tables c.in_ok-over.over c.args.shape c.requires.short

pub rebuilt-requires-clause-named : goal.rebuilt-requires-clause-named
rebuilt-requires-clause-named c = ap well_named c.over.ensures ∙ node-named c.build_extraction_projection.new.tables c.in_ok-over.over c.args.shape

pub rebuilt-requires-clause-placed : goal.rebuilt-requires-clause-placed
rebuilt-requires-clause-placed c =
    let u = c.build_extraction_projection.new.tables in
    ap (well_placed u) c.over.ensures ∙ node-placed u c.in_ok-over.over c.args.shape

pub rebuilt-requires-clause-kind : goal.rebuilt-requires-clause-kind
rebuilt-requires-clause-kind c =
    let t = c.args.tables.now in
    let u = c.build_extraction_projection.new.tables in
    let f = facts t c.args.extractor.now c.args.p c.args.input c.args.shape c.requires.good c.requires.input c.requires.node c.requires.found c.requires.there u c.in_ok-over.over c.in_ok-over.ensures.steps in
    subst (Buildable u) (sym c.over.ensures) (node-kind u c.in_ok-over.over c.args.shape (totals-stay t u f.extends c.args.shape c.requires.there c.requires.totals))

pub rebuilt-requires-clause-old : goal.rebuilt-requires-clause-old
rebuilt-requires-clause-old c =
    let t = c.args.tables.now in
    let u = c.build_extraction_projection.new.tables in
    let f = facts t c.args.extractor.now c.args.p c.args.input c.args.shape c.requires.good c.requires.input c.requires.node c.requires.found c.requires.there u c.in_ok-over.over c.in_ok-over.ensures.steps in
    omega (arith, more-nodes t u f.extends, c.requires.node)

pub rebuilt-requires-clause-good : goal.rebuilt-requires-clause-good
rebuilt-requires-clause-good c =
    (facts c.args.tables.now c.args.extractor.now c.args.p c.args.input c.args.shape c.requires.good c.requires.input c.requires.node c.requires.found c.requires.there c.build_extraction_projection.new.tables c.in_ok-over.over c.in_ok-over.ensures.steps).good

pub rebuilt-requires-clause-fits : goal.rebuilt-requires-clause-fits
rebuilt-requires-clause-fits c =
    let t = c.args.tables.now in
    let u = c.build_extraction_projection.new.tables in
    subst (λ n. Renamed (fields_at u c.args.p.0) (fields_of (view_in u).functions (tree_for u n))) (sym c.over.ensures)
    (over-fits t c.args.extractor.now c.args.p c.args.input c.args.shape c.requires.good c.requires.input c.requires.node c.requires.found c.requires.there u c.in_ok-over.over c.in_ok-over.ensures.steps c.requires.renamed)

pub returns-clause-steps : goal.returns-clause-steps
returns-clause-steps c =
    let t = c.args.tables.now in
    let u = c.build_extraction_projection.new.tables in
    let m = model_of c.rebuilt.new.tables in
    over-ok t c.args.extractor.now c.args.p c.args.input c.args.shape c.requires.good c.requires.input c.requires.node c.requires.found c.requires.there u c.in_ok-over.over c.in_ok-over.ensures.steps c.rebuilt.result m
    (subst (λ n. Steps (model_of u) 0 (rebuilt (view_in u).functions 0 (fields_at u c.args.p.0) (tree_for u n)) c.rebuilt.result m) c.over.ensures c.rebuilt.ensures.steps)
