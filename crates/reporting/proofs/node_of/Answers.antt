use Rattle.std.proofs.Common.{◌≡◌, true, [], sym, subst}
use Rattle.plan.specs.Calls.{below}
use Rattle.tables.specs.Holding.{plan_count}
use Rattle.evaluate.proofs.Decisions.{all_yes}
use Rattle.reporting.proofs.node_of.Goals as goal

pub returns-clause-there : goal.returns-clause-there
returns-clause-there c = subst (λ t. true ≡ below (plan_count t) c.args.p.0) c.reader.ensures (sym (all_yes _ _ [] c.in-Ok.ensures.0).0)
