use Rattle.rewriting.proofs.Takings.{extract-is-limited}
use Rattle.rewriting.proofs.extract_is_limited.Goals as goal

pub returns : goal.returns
returns c = extract-is-limited
