use Rattle.std.proofs.Common.{◌+◌, arith, subst}
use Rattle.std.proofs.lemmas.Bool.{and_parts, leb-true}
use Rattle.plan.specs.Calls.Call.{make_reference}
use Rattle.plan.specs.Calls.{Answers, good_field}
use Rattle.plan.specs.Names.{most_number}
use Rattle.plan.specs.Rendering.{unqualified_field}
use Rattle.rewriting.specs.Generated.{countable, generated}
use Rattle.rewriting.proofs.Fresh.{generated-is-good}
use Rattle.tables.specs.Answering.{answered_expr}
use Rattle.tables.specs.Holding.{model_of}
use Rattle.extracting.proofs.Built.{column-built}
use Rattle.extracting.proofs.Numbers.{column-number}
use Rattle.extracting.proofs.rebuilding.alias_column.Goals as goal

pub returns-clause-answer : goal.returns-clause-answer
unfolding countable
returns-clause-answer c =
    let n = c.args.alias in
    let f = unqualified_field (generated n) in
    let good = (and_parts (good_field f) _ (generated-is-good n (leb-true n most_number c.requires)).2).0 in
    column-built c.args.tables.now c.reference.new.self (generated n) (n + 1) c.reference.result good (omega (arith, column-number n (leb-true n most_number c.requires)))
    (subst (λ x. Answers (model_of c.args.tables.now) (make_reference (unqualified_field x)) (answered_expr c.reference.result) (model_of c.reference.new.self)) c.generated.ensures c.reference.ensures.answer)
