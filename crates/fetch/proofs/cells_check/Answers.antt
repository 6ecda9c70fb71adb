use Rattle.fetch.specs.RowCells.{cells_check}
use Rattle.fetch.proofs.cells_check.Goals as goal

pub returns : goal.returns
unfolding cells_check
returns c = c.row_check.ensures
