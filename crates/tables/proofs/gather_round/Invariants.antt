-- Rests on the invariant: cells put, the cell that comes next, and what is valid before it.
use mathlib.Core.Path.{◌≡◌}
use mathlib.Core.List.{◌++◌}
use lib.ListN.{drop}
use Rattle.lists.specs.Tab.{tab}
use Rattle.raster.specs.Moves.{advance_by, cell as cell_of}
use Rattle.tables.specs.Tables.{held_by, cell_by}
use Rattle.tables.proofs.gather_round.Given as goal

abbrev pub invariant-loop-number : goal.invariant-loop-number
invariant-loop-number l =
    (l.cell ≡ cell_of (advance_by l.buffer l.number-index l.initial.cell.address))
    × (l.number-items ≡ tab l.number-index (cell_by l.k l.chars l.attrs l.buffer l.held l.initial.cell.address) ++ drop l.number-index l.initial.number-items)
    × (l.valid ≡ held_by l.k.runs l.attrs l.buffer l.held l.initial.cell.address l.number-index)
