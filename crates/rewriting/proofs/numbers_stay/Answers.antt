use Rattle.rewriting.proofs.Numbers.{numbers_stay}
use Rattle.rewriting.proofs.numbers_stay.Goals as goal

pub returns : goal.returns
returns c = numbers_stay
