use mathlib.Core.Path.{refl}
use Rattle.timing.specs.Fields.{coded_of}
use Rattle.timing.proofs.coded_of.Goals as goal

pub returns : goal.returns
unfolding coded_of
returns c = refl
