-- Rests on layout-fits, which keeps the sum below 2^64.
use native.Mathlib.Omega.{arith}
use Rattle.board.specs.Laws.{layout-fits}
use Rattle.board.proofs.page_length.Goals as goal

pub overflow_add-result : goal.overflow_add-result
overflow_add-result c = record { fits = rw c.layout_of-l.ensures (omega (arith, (layout-fits c.args.version).page-most)) }
