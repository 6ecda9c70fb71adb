-- Rests on the invariant: the cells passed, from the last one back, set nothing.
use Rattle.std.proofs.Common.{◌≡◌}
use Rattle.raster.specs.Latch.{last_set}
use Rattle.latch.specs.Laws.{row_byte}
use Rattle.latch.proofs.last_round.Given as goal

abbrev pub invariant-loop-before : goal.invariant-loop-before
invariant-loop-before l =
    last_set (row_byte l.attrs l.buffer l.start.address) 0 l.before ≡ last_set (row_byte l.attrs l.buffer l.start.address) 0 l.n
