use Rattle.rewriting.proofs.Fresh.{generated-is-new}
use Rattle.rewriting.proofs.generated_is_new.Goals as goal

pub returns : goal.returns
returns c = generated-is-new
