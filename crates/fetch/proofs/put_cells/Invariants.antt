-- Rests on the invariant: the addresses put so far, and the cell that comes next.
use Rattle.std.proofs.Common.{◌≡◌, ◌++◌, drop}
use Rattle.lists.specs.Tab.{tab}
use Rattle.raster.specs.Moves.{advance_by, cell as cell_of}
use Rattle.fetch.specs.RowLaws.{column_by}
use Rattle.fetch.proofs.put_cells.Given as goal

abbrev pub invariant-loop-place : goal.invariant-loop-place
invariant-loop-place l =
    (l.cell ≡ cell_of (advance_by l.buffer l.place-index l.initial.cell.address))
    × (l.place-items ≡ tab l.place-index (column_by l.buffer l.initial.cell.address) ++ drop l.place-index l.initial.place-items)
