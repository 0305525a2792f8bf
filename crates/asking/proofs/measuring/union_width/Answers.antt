use Rattle.std.proofs.Common.{sym, ◌∙◌}
use Rattle.entries.specs.declared.node.PlanId.{PlanId}
use Rattle.tables.specs.Holding.{view_in, trees_in, plan_count}
use Rattle.terms.proofs.Walks.{item_below}
use Rattle.asking.proofs.NodeFacts.{union-width}
use Rattle.asking.proofs.measuring.union_width.Goals as goal

abbrev zero : PlanId
zero = record { 0 = 0 }

pub width_of-requires : goal.width_of-requires
width_of-requires c = item_below (λ p. p.0) (plan_count c.args.tables.now) c.args.inputs.now 0 zero c.requires.some c.requires.present

pub returns : goal.returns
returns c =
    let t = c.args.tables.now in
    record { value = c.width_of.ensures.value ∙ sym (union-width (view_in t).functions (trees_in t) c.args.inputs.now zero c.requires.some); bound = c.width_of.ensures.bound }
