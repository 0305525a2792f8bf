use Rattle.rewriting.proofs.Sample.{sample-run}
use Rattle.rewriting.proofs.sample_run_holds.Goals as goal

pub returns : goal.returns
returns c = sample-run
