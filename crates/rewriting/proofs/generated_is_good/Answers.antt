use Rattle.rewriting.proofs.Fresh.{generated-is-good}
use Rattle.rewriting.proofs.generated_is_good.Goals as goal

pub returns : goal.returns
returns c = generated-is-good
