-- Rests on the invariant: the cells marked so far, and the one that comes next.
use Rattle.std.proofs.Common.{◌≡◌}
use Rattle.raster.specs.Moves.{cell, advance_by}
use Rattle.catalogue.specs.Marks.{marked_by}
use Rattle.catalogue.proofs.mark.Given as goal

abbrev pub invariant-loop : goal.invariant-loop
invariant-loop l =
    (l.cell ≡ cell (advance_by l.buffer l.counter l.initial.cell.address))
    × (l.marks ≡ marked_by l.buffer l.initial.cell.address l.initial.marks l.counter)
