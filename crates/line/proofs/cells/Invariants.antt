-- Rests on the loop that lends each turn its own stretch (lists Join), one cell a turn.
use Prim.Native.Nat.{◌-◌, ◌*◌}
use mathlib.Core.List.{◌++◌}
use lib.ListN.{drop}
use Rattle.lists.specs.Fill.{Filling}
use Rattle.lists.specs.Join.{joined}
use Rattle.line.specs.Walk.{column_for}
use Rattle.line.proofs.cells.Given as goal

abbrev pub invariant-loop-c : goal.invariant-loop-c
invariant-loop-c l =
    Filling (joined 0 l.n (column_for l.w l.row l.looks l.words l.flags) ++ drop (l.n * l.d) l.initial.out) l.initial.out (l.n * l.d) l.out (l.c * l.d)
    (joined l.c (l.n - l.c) (column_for l.w l.row l.looks l.words l.flags))
