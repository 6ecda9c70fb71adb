use Rattle.timing.specs.Fields.{lines_of}
use Rattle.timing.proofs.lines_of.Goals as goal

pub returns : goal.returns
unfolding lines_of
returns c = c.scans_of.ensures
