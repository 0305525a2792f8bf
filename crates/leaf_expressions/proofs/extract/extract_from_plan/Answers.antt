use Rattle.std.proofs.Common.{◌≡◌, ◌<◌, Err, Ok, None, Some, sym, ap, ◌∙◌, subst, arith, rules}
use Rattle.std.proofs.lemmas.Bool.{ltb-true}
use Rattle.rewriting.specs.Book.{Rewrites}
use Rattle.tables.proofs.Begun.{begun-then}
use Rattle.tables.specs.Holding.{model_of, plan_count}
use Rattle.leaf_expressions.proofs.Attempted.{made-rewrites, origin-older, refused-rewrites, unchanged-rewrites}
use Rattle.leaf_expressions.proofs.extract.extract_from_plan.Goals as goal
use Rattle.leaf_expressions.specs.Comes.{Comes, answered, extracted}

pub drop-attempt-requires : goal.drop-attempt-requires
drop-attempt-requires c = (c.args.tables.now, begun-then _ _ _ _ c.begin-attempt.ensures.begun c.extract_node.ensures.begins)

pub returns-in_err-extract_node : goal.returns-in_err-extract_node
returns-in_err-extract_node c =
    let t = c.args.tables.now in
    let f = c.in_err-extract_node.field-0.0 in
    let lt = ltb-true c.args.p.0 (plan_count t) (sym c.has.ensures ∙ c.in_ok-ask.ensures) in
    let back = c.drop-attempt.ensures.model t (begun-then _ _ _ _ c.begin-attempt.ensures.begun c.extract_node.ensures.begins) in
    let r = c.begin-attempt.ensures.same_reference in
    let is : model_of c.tables-1.given.0 ≡ model_of t = grind (arith, back, r) in
    let e : c.from_residual-in_err-extract_node.result ≡ Err f = search rules in
    subst (λ z. Rewrites (model_of t) c.args.p.0 (extracted t c.args.p.0) (answered z) (model_of c.tables-1.given.0)) (sym e)
    (refused-rewrites t c.args.p lt f (model_of c.tables-1.given.0) (model_of c.extract_node.new.tables)
    (subst (λ y. Comes (model_of y) (extracted y c.args.p.0) (Err f) (model_of c.extract_node.new.tables)) c.begin-attempt.ensures.tables c.in_err-extract_node.ensures.comes) is)

pub drop-attempt-requires-in-None-1 : goal.drop-attempt-requires-in-None-1
drop-attempt-requires-in-None-1 c = (c.args.tables.now, begun-then _ _ _ _ c.begin-attempt.ensures.begun c.extract_node.ensures.begins)

pub returns-in-None : goal.returns-in-None
returns-in-None c =
    let t = c.args.tables.now in
    let lt = ltb-true c.args.p.0 (plan_count t) (sym c.has.ensures ∙ c.in_ok-ask.ensures) in
    let back = c.drop-attempt-in-None-1.ensures.model t (begun-then _ _ _ _ c.begin-attempt.ensures.begun c.extract_node.ensures.begins) in
    let r = c.begin-attempt.ensures.same_reference in
    let is : model_of c.tables-in-None-1.given.0 ≡ model_of t = grind (arith, back, r) in
    unchanged-rewrites t c.args.p lt (model_of c.tables-in-None-1.given.0) (model_of c.extract_node.new.tables)
    (subst (λ y. Comes (model_of y) (extracted y c.args.p.0) (Ok None) (model_of c.extract_node.new.tables)) c.begin-attempt.ensures.tables
    (subst (λ y. Comes (model_of c.begin-attempt.result.tables.now) (extracted c.begin-attempt.result.tables.now c.args.p.0) (Ok y) (model_of c.extract_node.new.tables)) c.in-None.is c.in_ok-extract_node.ensures.comes)) is

pub give_origin-requires-clause-older : goal.give_origin-requires-clause-older
give_origin-requires-clause-older c =
    let t = c.args.tables.now in
    let t1 = c.begin-attempt.result.tables.now in
    let u = c.extract_node.new.tables in
    let lt = ltb-true c.args.p.0 (plan_count t) (sym c.has.ensures ∙ c.in_ok-ask.ensures) in
    let h = subst (λ y. Comes (model_of t1) (extracted t1 c.args.p.0) (Ok y) (model_of u)) c.in-Some.is c.in_ok-extract_node.ensures.comes in
    origin-older t1 u c.args.p c.in-Some.new (subst (λ y. c.args.p.0 < plan_count y) (sym c.begin-attempt.ensures.tables) lt) c.origin_of-origin.result.0 c.origin_of-origin.ensures h

pub returns-in-Some : goal.returns-in-Some
returns-in-Some c =
    let t = c.args.tables.now in
    let u = c.extract_node.new.tables in
    let lt = ltb-true c.args.p.0 (plan_count t) (sym c.has.ensures ∙ c.in_ok-ask.ensures) in
    let r = c.begin-attempt.ensures.same_reference in
    let k = c.keep.ensures in
    let is : model_of c.tables-in-Some-1.given.0 ≡ model_of c.give_origin.new.self = grind (arith, k, r) in
    subst (λ m. Rewrites (model_of t) c.args.p.0 (extracted t c.args.p.0) (answered (Ok (Some c.in-Some.new))) m) (sym is)
    (made-rewrites t c.args.p lt u c.give_origin.new.self c.in-Some.new c.origin_of-origin.result.0 c.requires
    (subst (λ y. Comes (model_of y) (extracted y c.args.p.0) (Ok (Some c.in-Some.new)) (model_of u)) c.begin-attempt.ensures.tables
    (subst (λ y. Comes (model_of c.begin-attempt.result.tables.now) (extracted c.begin-attempt.result.tables.now c.args.p.0) (Ok y) (model_of u)) c.in-Some.is c.in_ok-extract_node.ensures.comes))
    c.origin_of-origin.ensures c.give_origin.ensures)
