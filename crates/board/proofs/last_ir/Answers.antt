-- Rests on layout-fits: a page has an IR, and few of them.
use native.Mathlib.Omega.{arith}
use Rattle.board.specs.Laws.{layout-fits}
use Rattle.board.proofs.last_ir.Goals as goal

pub overflow_sub-result : goal.overflow_sub-result
overflow_sub-result c = rw c.irs_of.ensures (omega (arith, (layout-fits c.args.version).irs-some))

pub overflow_cast-result : goal.overflow_cast-result
overflow_cast-result c = record { fits = rw c.irs_of.ensures (omega (arith, (layout-fits c.args.version).irs-most)) }
