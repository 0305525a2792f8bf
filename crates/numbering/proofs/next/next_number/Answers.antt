use Rattle.std.proofs.Common.{ap, ◌∙◌, arith}
use Rattle.std.specs.List.{flat_map}
use Rattle.numbering.specs.Own.{capped, own_names}
use Rattle.numbering.proofs.Capped.{next-above, next-bounded}
use Rattle.terms.specs.Views.{view_of}
use Rattle.numbering.proofs.next.next_number.Goals as goal

pub returns : goal.returns
returns c =
    let t = c.args.tables.now in
    let exprs = c.highest_in_exprs.ensures ∙ ap (λ s. capped (flat_map own_names (view_of s).trees)) c.terms.ensures in
    let value = next-above t c.highest_in_exprs.result c.highest_in_nodes.result c.max-highest.result c.max.result exprs c.highest_in_nodes.ensures c.max-highest.ensures c.max.ensures in
    record { value = value; bound = omega (arith, value, next-bounded t) }
