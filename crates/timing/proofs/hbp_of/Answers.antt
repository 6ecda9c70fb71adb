use Rattle.timing.specs.Fields.{hbp_of}
use Rattle.timing.proofs.hbp_of.Goals as goal

pub returns : goal.returns
unfolding hbp_of
returns c = c.minus.ensures
