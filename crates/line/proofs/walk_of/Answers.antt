use mathlib.Core.Path.{refl}
use Rattle.line.specs.Walk.{walk_of}
use Rattle.line.proofs.walk_of.Goals as goal

pub returns : goal.returns
unfolding walk_of
returns c = refl
