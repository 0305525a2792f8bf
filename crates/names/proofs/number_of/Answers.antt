use Rattle.std.proofs.Common.{◌∙◌}
use Rattle.names.specs.declared.TheConstants.{NUMBER_CAP}
use Rattle.names.proofs.Bytes.{number-found}
use Rattle.names.proofs.number_of.Goals as goal

pub returns : goal.returns
returns c = c.unwrap_or.ensures ∙ number-found c.args.name.now NUMBER_CAP c.and_then.result c.strip_prefix.result c.strip_prefix.ensures.cases c.and_then.ensures
