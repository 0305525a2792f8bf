use Rattle.rewriting.proofs.Marked.{extract-leaves-nothing}
use Rattle.rewriting.proofs.extract_leaves_nothing.Goals as goal

pub returns : goal.returns
returns c = extract-leaves-nothing
