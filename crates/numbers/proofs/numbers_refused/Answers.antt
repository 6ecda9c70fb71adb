use Rattle.numbers.specs.Numbers.{numbers_refused}
use Rattle.numbers.proofs.numbers_refused.Goals as goal

pub returns : goal.returns
unfolding numbers_refused
returns c = rw c.version_refused.ensures
