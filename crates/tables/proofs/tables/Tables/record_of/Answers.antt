use Rattle.std.proofs.Common.{arith, lit<}
use Rattle.tables.proofs.Held.{counted, reads_as}
use Rattle.tables.proofs.tables.Tables.record_of.Goals as goal

pub get-requires : goal.get-requires
get-requires c = (lit< tt, omega (arith, counted c.args.self.now, c.requires))

pub returns : goal.returns
returns c = reads_as c.args.self.now c.args.p.0 c.get.result c.requires (c.get.ensures c.get.result)
