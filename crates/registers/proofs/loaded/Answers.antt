-- Rests on layout-fits: the record has room for every IR of its page.
use native.Mathlib.Omega.{arith}
use Rattle.board.specs.Laws.{layout-fits}
use Rattle.registers.proofs.loaded.Goals as goal

pub next_pointer-next-requires : goal.next_pointer-next-requires
next_pointer-next-requires c = omega (arith, (layout-fits c.args.b.page.version).irs-some, (layout-fits c.args.b.page.version).irs-most)

pub bounds-p-i : goal.bounds-p-i
bounds-p-i c = omega (arith, (layout-fits c.args.b.page.version).irs-some, (layout-fits c.args.b.page.version).irs-most)
