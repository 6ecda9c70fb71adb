use Rattle.timing.specs.Laws.{lines-some}
use Rattle.timing.proofs.row_of.Goals as goal

pub quotient-requires : goal.quotient-requires
quotient-requires c = rw c.lines_of.ensures (lines-some _)
