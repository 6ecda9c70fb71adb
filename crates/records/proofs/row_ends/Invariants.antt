-- Rests on the invariant: the lowest and the highest cell so far, and the one that comes next.
use Rattle.std.proofs.Common.{◌≡◌}
use Rattle.raster.specs.Moves.{advance_by, cell as cell_of}
use Rattle.records.specs.Ends.{low_to, high_to}
use Rattle.records.proofs.row_ends.Given as goal

abbrev pub invariant-loop : goal.invariant-loop
invariant-loop l =
    (l.cell ≡ cell_of (advance_by l.buffer l.counter l.initial.cell.address))
    × (l.low ≡ low_to (λ i. advance_by l.buffer i l.initial.cell.address) l.counter)
    × (l.high ≡ high_to (λ i. advance_by l.buffer i l.initial.cell.address) l.counter)
