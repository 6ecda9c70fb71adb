-- Rests on dots-bound: an accepted page has few enough dots in a line.
use native.Mathlib.Omega.{arith}
use Rattle.std.proofs.Common.{sym}
use Rattle.timing.specs.Laws.{accepted, dots-bound}
use Rattle.timing.proofs.page_size.Goals as goal

pub dots_of-requires : goal.dots_of-requires
dots_of-requires c =
    let p = c.args.p in
    let page = accepted p (sym c.in_ok-page_check.ensures) in
    rw c.hact_of.ensures (omega (arith, dots-bound p page))
