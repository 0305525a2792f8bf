use Rattle.std.proofs.Common.{◌≡◌, Err, length, sym, ap, ap₂, ◌∙◌, subst, arith, rules}
use Rattle.stepping.proofs.Fields.{good-fields}
use Rattle.rewriting.specs.Extracting.{rebuilt}
use Rattle.stepping.specs.Steps.{Steps}
use Rattle.tables.specs.Holding.{fields_at, model_of, view_in}
use Rattle.tables.specs.Making.{tree_for}
use Rattle.recovering.proofs.Rebuilt.{fields-kept, more-nodes, new-fields, rebuilt-err, rebuilt-ok, stands}
use Rattle.recovering.proofs.rebuilding.rebuilt.Goals as goal
use Rattle.recovering.specs.Renaming.{can_rename}

pub returns-in_err-p-clause-steps : goal.returns-in_err-p-clause-steps
returns-in_err-p-clause-steps c =
    let t = c.args.tables.now in
    let m = model_of c.make_at.new.tables in
    let e = c.in_err-p.field-0.0 in
    let is-err : c.from_residual.result ≡ Err e = search rules in
    subst (λ r. Steps (model_of t) 0 (rebuilt (view_in t).functions 0 (fields_at t c.args.old.0) (tree_for t c.args.node)) r m) (sym is-err)
    (rebuilt-err t c.args.old (tree_for t c.args.node) e m m c.in_err-p.ensures.steps)

pub build_recovery_projection-requires-clause-old : goal.build_recovery_projection-requires-clause-old
build_recovery_projection-requires-clause-old c =
    let t = c.args.tables.now in
    let u = c.make_at.new.tables in
    let s = stands t c.args.old (tree_for t c.args.node) u c.in_ok-p.p c.in_ok-p.ensures.steps in
    omega (arith, more-nodes t u s.extends, c.requires.old)

pub build_recovery_projection-requires-clause-present : goal.build_recovery_projection-requires-clause-present
build_recovery_projection-requires-clause-present c = (stands c.args.tables.now c.args.old (tree_for c.args.tables.now c.args.node) c.make_at.new.tables c.in_ok-p.p c.in_ok-p.ensures.steps).there

pub build_recovery_projection-requires-clause-fits : goal.build_recovery_projection-requires-clause-fits
build_recovery_projection-requires-clause-fits c =
    let t = c.args.tables.now in
    let u = c.make_at.new.tables in
    let N = tree_for t c.args.node in
    let s = stands t c.args.old N u c.in_ok-p.p c.in_ok-p.ensures.steps in
    let kept = fields-kept t u s.extends c.args.old.0 c.requires.old in
    let new = new-fields t c.args.old N u c.in_ok-p.p c.in_ok-p.ensures.steps in
    λ many. ap₂ can_rename kept new ∙ c.requires.fits (ap length (sym kept) ∙ many ∙ ap length new)

pub build_recovery_projection-requires-clause-good : goal.build_recovery_projection-requires-clause-good
build_recovery_projection-requires-clause-good c =
    let t = c.args.tables.now in
    let u = c.make_at.new.tables in
    let s = stands t c.args.old (tree_for t c.args.node) u c.in_ok-p.p c.in_ok-p.ensures.steps in
    good-fields u (s.extends.good c.requires.good) c.args.old.0 (omega (arith, more-nodes t u s.extends, c.requires.old))

pub build_recovery_projection-requires-clause-shown : goal.build_recovery_projection-requires-clause-shown
build_recovery_projection-requires-clause-shown c =
    let t = c.args.tables.now in
    let u = c.make_at.new.tables in
    let s = stands t c.args.old (tree_for t c.args.node) u c.in_ok-p.p c.in_ok-p.ensures.steps in
    good-fields u (s.extends.good c.requires.good) c.in_ok-p.p.0 s.there

pub returns-clause-steps : goal.returns-clause-steps
returns-clause-steps c =
    let t = c.args.tables.now in
    rebuilt-ok t c.args.old (tree_for t c.args.node) c.make_at.new.tables c.in_ok-p.p c.in_ok-p.ensures.steps c.requires.old c.build_recovery_projection.result (model_of c.build_recovery_projection.new.tables) c.build_recovery_projection.ensures.steps
