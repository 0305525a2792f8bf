use Rattle.rewriting.proofs.Ring.{ring-holds}
use Rattle.rewriting.proofs.push_is_a_ring.Goals as goal

pub returns : goal.returns
returns c = ring-holds
