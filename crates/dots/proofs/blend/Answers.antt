use native.Mathlib.Omega.{arith}
use Rattle.dots.specs.Inks.{inks-all, inked-in}
use Rattle.dots.proofs.blend.Goals as goal

pub bounds-inks-look : goal.bounds-inks-look
bounds-inks-look c = omega (arith, inks-all _ c.requires.0, c.requires.1)

pub bounds-inks-word : goal.bounds-inks-word
bounds-inks-word c = omega (arith, inks-all _ c.requires.0)

pub bounds-inks-look-2 : goal.bounds-inks-look-2
bounds-inks-look-2 c = omega (arith, inks-all _ c.requires.0, c.requires.1)

pub returns : goal.returns
returns c = inked-in _ c.requires.0 c.args.levels c.args.word c.requires.1
