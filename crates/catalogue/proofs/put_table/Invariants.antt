-- Rests on the invariant: the entries put so far, and where the next row starts.
use Prim.Native.Nat.{◌*◌}
use mathlib.Core.Path.{◌≡◌}
use mathlib.Core.List.{◌++◌}
use lib.ListN.{drop}
use Rattle.lists.specs.Tab.{tab}
use Rattle.raster.specs.Moves.{cell, advance_by}
use Rattle.catalogue.specs.Marks.{entry_byte}
use Rattle.catalogue.proofs.put_table.Given as goal

abbrev pub invariant-loop-r : goal.invariant-loop-r
invariant-loop-r l =
    (l.cell ≡ cell (advance_by l.buffer (l.r * l.columns) l.initial.cell.address))
    × (l.out ≡ tab (2 * l.r) (entry_byte l.buffer l.initial.cell.address (l.columns)) ++ drop (2 * l.r) l.initial.out)
