-- Rests on narrowed: the last four bytes go on where the first four end.
use Rattle.dots.specs.Overlap.{narrowed}
use Rattle.dots.proofs.narrow.Goals as goal

pub returns : goal.returns
returns c = narrowed c.args.d c.args.v _ _ c.requires.0 c.requires.1 c.ends.ensures
