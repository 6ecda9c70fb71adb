use Rattle.fetch.specs.Run.{run_check}
use Rattle.fetch.proofs.run_check.Goals as goal

pub returns : goal.returns
unfolding run_check
returns c = c.row_check.ensures
