use Rattle.dots.specs.Bytes.{nibble}
use Rattle.dots.proofs.nibble.Goals as goal

pub returns : goal.returns
returns c = nibble c.args.w
