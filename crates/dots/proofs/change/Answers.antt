use lib.Bits.{xor_lt}
use mathlib.Core.Path.{refl}
use Rattle.dots.proofs.change.Goals as goal

pub returns : goal.returns
returns c = (refl, xor_lt 2 _ _ c.requires.0 c.requires.1)
