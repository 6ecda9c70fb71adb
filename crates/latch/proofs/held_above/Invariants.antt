-- Rests on the invariant: what is valid before the row left is what is valid before the row asked for.
use Rattle.std.proofs.Common.{◌≡◌}
use Rattle.latch.specs.Held.{held_at}
use Rattle.latch.proofs.held_above.Given as goal

abbrev pub invariant-loop-above : goal.invariant-loop-above
invariant-loop-above l = held_at l.p l.chars l.attrs l.above 0 ≡ held_at l.p l.chars l.attrs l.row 0
