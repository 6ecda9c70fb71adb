-- Rests on frames-fit and clocks-fit, which keep the clock below 2^32.
use native.Mathlib.Omega.{arith}
use Rattle.callers_stepped.specs.Lines.{frames-fit, frames-line, clocks-fit, clock-is}
use Rattle.callers_stepped.proofs.lines.clock_of.Goals as goal

pub times-before-requires : goal.times-before-requires
times-before-requires c =
    omega (arith, frames-fit _ c.timing_of-t.ensures c.args.field c.args.line.0 c.ranges.field.fits c.requires)

pub plus-requires : goal.plus-requires
plus-requires c =
    omega (arith, frames-line _ c.timing_of-t.ensures c.args.field c.args.line.0 c.ranges.field.fits c.requires c.times-before.ensures)

pub clocks_of-requires : goal.clocks_of-requires
clocks_of-requires c =
    let timing = c.timing_of-t.ensures in
    omega (arith, clocks-fit _ timing c.args.field c.args.line.0 c.ranges.field.fits c.requires c.times-before.ensures c.plus.ensures)

pub returns : goal.returns
returns c = clock-is _ c.timing_of-t.ensures _ _ c.times-before.ensures c.plus.ensures c.clocks_of.ensures
