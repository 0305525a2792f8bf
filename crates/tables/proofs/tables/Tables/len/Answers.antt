use Rattle.std.proofs.Common.{sym, ◌∙◌}
use Rattle.tables.proofs.Held.{counted}
use Rattle.tables.proofs.tables.Tables.len.Goals as goal

pub returns : goal.returns
returns c = record { value = c.len.ensures.value ∙ sym (counted c.args.self.now); bound = c.len.ensures.bound }
