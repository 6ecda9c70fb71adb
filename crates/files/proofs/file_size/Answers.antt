-- Rests on layout-fits, which keeps the sum below 2^64.
use native.Mathlib.Omega.{arith}
use Rattle.board.specs.Laws.{layout-fits}
use Rattle.files.proofs.file_size.Goals as goal

pub overflow_add-result : goal.overflow_add-result
overflow_add-result c = record { fits = omega (arith, c.page_length.ensures, (layout-fits c.args.version).page-most) }
