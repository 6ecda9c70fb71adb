-- Rests on layout-fits, which keeps the sum small.
use native.Mathlib.Omega.{arith}
use Rattle.board.specs.Laws.{layout-fits}
use Rattle.files.proofs.length_field.Goals as goal

pub overflow_cast-result : goal.overflow_cast-result
overflow_cast-result c = record { fits = omega (arith, c.page_length.ensures, (layout-fits c.args.version).page-most) }

pub overflow_add-result : goal.overflow_add-result
overflow_add-result c = record { fits = omega (arith, c.page_length.ensures, (layout-fits c.args.version).page-most) }

pub returns : goal.returns
returns c = (rw c.page_length.ensures, omega (arith, c.page_length.ensures, (layout-fits c.args.version).page-most))
