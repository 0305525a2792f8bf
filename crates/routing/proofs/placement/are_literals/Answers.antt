use Rattle.std.proofs.Common.{◌∙◌, rules, tests}
use Rattle.std.proofs.lemmas.Iterator.{YieldsList-from_slice}
use Rattle.std.proofs.lemmas.Iterator.Search.{all_from_yields_List}
use Rattle.plan.specs.Functions.{is_constant}
use Rattle.routing.specs.Placing.{named}
use Rattle.routing.proofs.Placing.{all-constant}
use Rattle.routing.proofs.placement.are_literals.Goals as goal

pub returns : goal.returns
returns c =
    all_from_yields_List (λ p. is_constant (named p)) _ _ c.all.result c.all.ensures.ran (YieldsList-from_slice _ c.iter.ensures.rest) (λ x b q k. search (rules, tests))
    ∙ all-constant c.args.arguments.now
