use Rattle.std.proofs.Common.{◌≡◌, Err, sym, ◌∙◌, subst, rules}
use Rattle.rewriting.specs.Extracting.{build_recovery_projection}
use Rattle.stepping.specs.Lists.{ListMade}
use Rattle.stepping.specs.Steps.{Steps}
use Rattle.tables.specs.Holding.{fields_at, model_of, tree_in, view_in}
use Rattle.recovering.proofs.Recovered.{recovers-full, recovers-made, recovers-same, recovery-placed}
use Rattle.recovering.proofs.recovery.build_recovery_projection.Goals as goal
use Rattle.recovering.specs.Renaming.{recovery_list}

pub returns-then-same_fields-clause-steps : goal.returns-then-same_fields-clause-steps
returns-then-same_fields-clause-steps c = recovers-same c.args.tables.now c.args.old c.args.p c.requires.present (sym c.same_fields.ensures ∙ c.if-same_fields.true)

pub returns-in_err-push_recovery-clause-steps : goal.returns-in_err-push_recovery-clause-steps
returns-in_err-push_recovery-clause-steps c =
    let t = c.args.tables.now in
    let m = model_of c.push_recovery.new.tables in
    let e = c.in_err-push_recovery.field-0.0 in
    let is-err : c.from_residual.result ≡ Err e = search rules in
    subst (λ r. Steps (model_of t) 0 (build_recovery_projection (view_in t).functions 0 (fields_at t c.args.old.0) (tree_in t c.args.p.0)) r m) (sym is-err)
    (recovers-full t c.args.old c.args.p (sym c.same_fields.ensures ∙ c.if-same_fields.false) e m c.in_err-push_recovery.ensures.answer)

pub make_at-requires-clause-placed : goal.make_at-requires-clause-placed
make_at-requires-clause-placed c =
    let t = c.args.tables.now in
    let u = c.push_recovery.new.tables in
    let fs = fields_at t c.args.old.0 in
    let gs = fields_at t c.args.p.0 in
    recovery-placed t u fs gs c.as_slice.result.now (subst (λ ids. ListMade t (recovery_list fs gs) 0 ids u) (sym c.as_slice.ensures) c.in_ok-push_recovery.ensures.answer)

pub returns-clause-steps : goal.returns-clause-steps
returns-clause-steps c =
    let t = c.args.tables.now in
    let u = c.push_recovery.new.tables in
    let list = recovery_list (fields_at t c.args.old.0) (fields_at t c.args.p.0) in
    recovers-made t c.args.old c.args.p (sym c.same_fields.ensures ∙ c.if-same_fields.false) u c.as_slice.result.now c.make_at.result (model_of c.make_at.new.tables)
    (subst (λ ids. ListMade t list 0 ids u) (sym c.as_slice.ensures) c.in_ok-push_recovery.ensures.answer) c.make_at.ensures.steps
