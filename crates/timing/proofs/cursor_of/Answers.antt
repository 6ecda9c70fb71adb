use mathlib.Core.Path.{refl}
use Rattle.timing.specs.Fields.{cursor_of}
use Rattle.timing.proofs.cursor_of.Goals as goal

pub returns : goal.returns
unfolding cursor_of
returns c = refl
