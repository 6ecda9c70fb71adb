-- Rests on the definition alone: the code spells it out.
use mathlib.Core.Path.{refl}
use Rattle.timing.specs.Fields.{buffer_of}
use Rattle.timing.proofs.buffer_of.Goals as goal

pub returns : goal.returns
unfolding buffer_of
returns c = refl
