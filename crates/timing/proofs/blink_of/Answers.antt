use mathlib.Core.Path.{refl}
use Rattle.timing.specs.Fields.{blink_of}
use Rattle.timing.proofs.blink_of.Goals as goal

pub returns : goal.returns
unfolding blink_of
returns c = refl
