use Rattle.std.proofs.Common.{subst}
use Rattle.std.proofs.lemmas.Bool.{leb-true}
use Rattle.plan.specs.Calls.Call.{make_alias}
use Rattle.plan.specs.Calls.{Answers}
use Rattle.plan.specs.Names.{most_number}
use Rattle.plan.specs.Rendering.{unqualified_field}
use Rattle.rewriting.specs.Generated.{countable}
use Rattle.tables.specs.Answering.{answered_expr}
use Rattle.tables.specs.Holding.{model_of}
use Rattle.merging.proofs.Aliased.{alias-built}
use Rattle.merging.proofs.pairs.aliased.Goals as goal

pub returns-clause-answer : goal.returns-clause-answer
unfolding countable
returns-clause-answer c =
    let t = c.args.tables.now in
    let u = c.alias.new.self in
    alias-built t u c.args.e.0 c.args.alias c.alias.result (leb-true c.args.alias most_number c.requires.number) c.requires.present c.requires.small
    (subst (λ x. Answers (model_of t) (make_alias c.args.e.0 (unqualified_field x)) (answered_expr c.alias.result) (model_of u)) c.generated.ensures c.alias.ensures.answer)
