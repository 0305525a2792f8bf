use Rattle.std.proofs.Common.{sym, ap, ◌∙◌}
use Rattle.numbering.specs.Own.{capped, own_names}
use Rattle.numbering.proofs.Capped.{capped-none}
use Rattle.numbering.proofs.next.expr_number.Goals as goal

pub returns-in-Call : goal.returns-in-Call
returns-in-Call c = capped-none ∙ sym (ap (λ t. capped (own_names t)) c.in-Call.ensures.tree)
