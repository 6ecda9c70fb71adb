-- Rests on the callees: each test of the definition is one of their answers.
use Rattle.std.proofs.Common.{rules}
use Rattle.timing.specs.Check.{state_refused}
use Rattle.timing.proofs.state_refused.Goals as goal

pub returns : goal.returns
unfolding state_refused
returns c = search rules
