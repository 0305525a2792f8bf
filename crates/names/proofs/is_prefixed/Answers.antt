use Rattle.std.proofs.Common.{take}
use Rattle.names.proofs.Bytes.{matched-back}
use Rattle.plan.specs.Names.{prefix}
use Rattle.names.proofs.is_prefixed.Goals as goal

pub returns : goal.returns
returns c = matched-back prefix (take 22 c.args.name.now) _ c.starts_with.ensures.value
