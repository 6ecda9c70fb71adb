use Rattle.timing.specs.Laws.{lines-some}
use Rattle.timing.proofs.line_of_row.Goals as goal

pub remainder-requires : goal.remainder-requires
remainder-requires c = rw c.lines_of.ensures (lines-some _)
