use Rattle.std.proofs.Common.{length, sym, ap, ◌∙◌}
use Rattle.std.proofs.lemmas.Bool.{and_parts}
use Rattle.tables.specs.Holding.{view_in}
use Rattle.stored.specs.Stored.{run_in}
use Rattle.stored.specs.declared.node.PlanNode.TheVariants.{Union}
use Rattle.tables.proofs.Inputs.{as-node, run_long}
use Rattle.tables.proofs.tables.Tables.input_count.Goals as goal

pub returns-in-Union : goal.returns-in-Union
returns-in-Union c =
    let t = c.args.self.now in
    let l = c.in-Union.inputs in
    let h = as-node t c.args.p.0 c.record_of.result (Union l) c.record_of.ensures c.in-Union.is in
    sym (ap length h.inputs ∙ run_long (view_in t).entries l (and_parts (run_in (view_in t).entries l) _ h.inside).0)
