-- Rests on the loop whose stores run past the stretch of their turn (Spill); the last cell is stored tight.
use Prim.Native.Nat.{◌+◌, ◌*◌, ◌-◌}
use mathlib.Core.List.{◌++◌}
use lib.ListN.{drop}
use Rattle.lists.specs.Join.{joined}
use Rattle.picture.specs.Spill.{Spilling}
use Rattle.picture.specs.Plan.{cell_from}
use Rattle.picture.proofs.draw_cells.Given as goal

abbrev pub invariant-loop-i : goal.invariant-loop-i
invariant-loop-i l =
    Spilling (joined 0 (l.last + 1) (cell_from l.cells l.t.shown.now l.t.looks.now l.d l.scan.0) ++ drop ((l.last + 1) * l.d) l.initial.out) l.initial.out ((l.last + 1) * l.d) l.out (l.i * l.d) l.d
    (joined l.i (l.last + 1 - l.i) (cell_from l.cells l.t.shown.now l.t.looks.now l.d l.scan.0))
