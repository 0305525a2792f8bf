use Rattle.rewriting.proofs.Laws.{extract-law}
use Rattle.rewriting.proofs.extract_keeps.Goals as goal

pub returns : goal.returns
returns c = extract-law
