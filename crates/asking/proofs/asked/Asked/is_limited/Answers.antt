use Rattle.std.proofs.Common.{sym, ◌∙◌}
use Rattle.asking.proofs.Small.{limited-named}
use Rattle.asking.proofs.asked.Asked.is_limited.Goals as goal

pub returns-then-is_small : goal.returns-then-is_small
returns-then-is_small c = c.has_short_names.ensures ∙ limited-named c.args.self (sym c.is_small.ensures ∙ c.if-is_small.true)
