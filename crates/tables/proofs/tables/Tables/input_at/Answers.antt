use Rattle.std.proofs.Common.{◌<◌, length, get_or, sym, ap, ◌∙◌, arith}
use Rattle.std.proofs.lemmas.List.{get_or-map, length-map}
use Rattle.table.specs.Contents.{part}
use Rattle.entries.specs.Entries.{entry_number}
use Rattle.tables.specs.Holding.{view_in}
use Rattle.stored.specs.declared.node.PlanNode.TheVariants.{Union}
use Rattle.tables.proofs.Inputs.{as-node, input-lower}
use Rattle.tables.proofs.tables.Tables.input_at.Goals as goal

pub returns-in-Union : goal.returns-in-Union
returns-in-Union c =
    let t = c.args.self.now in
    let p = c.args.p.0 in
    let k = c.args.position in
    let l = c.in-Union.inputs in
    let h = as-node t p c.record_of.result (Union l) c.record_of.ensures c.in-Union.is in
    let es = part (view_in t).entries l.first l.count in
    let e = c.entry.result in
    let lt : k < length es = omega (arith, c.requires.position, ap length h.inputs, length-map es entry_number) in
    let value = ap (λ q. q.0) c.read.ensures ∙ ap entry_number (c.entry.ensures e) ∙ sym (get_or-map entry_number es k e 0 lt) ∙ sym (ap (λ ns. get_or ns k 0) h.inputs) in
    record { value = value; lower = omega (arith, value, input-lower t p k (Union l) h c.requires.position) }
