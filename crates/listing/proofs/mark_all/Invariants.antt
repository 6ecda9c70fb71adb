-- Rests on the loop that turns one byte a turn where it stands (Bytes Turning).
use Rattle.listing.specs.Listing.{letter_of}
use Rattle.listing.specs.Bytes.{Turning}
use Rattle.listing.proofs.mark_all.Given as goal

abbrev pub invariant-loop-level : goal.invariant-loop-level
invariant-loop-level l = Turning letter_of l.initial.levels l.levels l.level-index
