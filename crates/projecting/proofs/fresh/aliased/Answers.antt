use Rattle.std.proofs.Common.{◌≡◌, ◌<◌, [], ◌∷◌, Ok, Err, sym, subst}
use Rattle.plan.specs.Calls.Call.{make_alias}
use Rattle.plan.specs.Calls.{Answers}
use Rattle.plan.specs.Rendering.{unqualified_field}
use Rattle.rewriting.specs.Routing.{unalias}
use Rattle.tables.specs.Answering.{answered_expr}
use Rattle.tables.specs.Holding.{model_of, view_in}
use Rattle.terms.specs.Views.{count, tree_of}
use Rattle.projecting.proofs.Pairing.{aliased-made, aliased-refused}
use Rattle.projecting.proofs.fresh.aliased.Goals as goal
use Rattle.projecting.specs.Freshly.{Misfit, entry_tree}

pub returns-in-Ok-clause-answer : goal.returns-in-Ok-clause-answer
returns-in-Ok-clause-answer c =
    let t = c.args.tables.now in
    let u = c.alias.new.self in
    let d = c.args.entry in
    let inner = c.unaliased-inner.result in
    aliased-made t u d c.requires.inside inner
    (subst (λ m. inner.0 < count m) c.terms.ensures c.unaliased-inner.ensures.present)
    (subst (λ m. tree_of m inner.0 ≡ unalias (tree_of m d.inner.0)) c.terms.ensures c.unaliased-inner.ensures.tree)
    c.in-Ok.made
    (subst (λ x. Answers (model_of t) (make_alias inner.0 (unqualified_field x)) (answered_expr (Ok c.in-Ok.made)) (model_of u)) c.generated.ensures c.in-Ok.ensures.answer)

pub returns-in-Err-clause-answer : goal.returns-in-Err-clause-answer
returns-in-Err-clause-answer c =
    let t = c.args.tables.now in
    let u = c.alias.new.self in
    let d = c.args.entry in
    let inner = c.unaliased-inner.result in
    subst (Misfit t 0 (entry_tree (view_in t) d ∷ [])) (sym c.at_stage.ensures)
    (aliased-refused t u d c.requires.inside inner
    (subst (λ m. inner.0 < count m) c.terms.ensures c.unaliased-inner.ensures.present)
    (subst (λ m. tree_of m inner.0 ≡ unalias (tree_of m d.inner.0)) c.terms.ensures c.unaliased-inner.ensures.tree)
    c.in-Err.refused
    (subst (λ x. Answers (model_of t) (make_alias inner.0 (unqualified_field x)) (answered_expr (Err c.in-Err.refused)) (model_of u)) c.generated.ensures c.in-Err.ensures.answer))
