-- Rests on the ranges of HACT, HSYNC and HBP, which keep the sum below 2^32.
use native.Mathlib.Omega.{arith}
use Rattle.timing.specs.Laws.{hbp-le}
use Rattle.timing.proofs.rest_of.Goals as goal

pub plus-requires-2 : goal.plus-requires-2
plus-requires-2 c =
    rw (c.hbp_of.ensures, c.plus.ensures, c.hsync_of.ensures, c.hact_of.ensures)
    (omega (arith, hbp-le c.args.p))
