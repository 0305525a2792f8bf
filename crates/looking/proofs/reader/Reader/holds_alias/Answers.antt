use Rattle.std.proofs.Common.{refl, rules}
use Rattle.tables.proofs.Inputs.{as-node}
use Rattle.looking.proofs.Traces.{holds_as, union-holds}
use Rattle.looking.proofs.reader.Reader.holds_alias.Goals as goal

pub returns-in_default : goal.returns-in_default
returns-in_default c =
    let h = holds_as c.args.self.tables.now c.args.p.0 _ c.args.name.now (as-node c.args.self.tables.now c.args.p.0 c.record_of.result _ c.record_of.ensures refl) in
    search (rules, h, union-holds c.args.name.now)
