use Rattle.records.specs.Folds.{mate_start}
use Rattle.records.proofs.start_mate.Goals as goal

pub returns : goal.returns
unfolding mate_start
returns c = rw c.is_bad.ensures
