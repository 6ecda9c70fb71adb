-- Rests on the loop that lends each turn its own stretch (lists Join), one scan line a turn.
use Prim.Native.Nat.{◌≤◌, ◌-◌, ◌*◌}
use mathlib.Core.List.{◌++◌}
use lib.ListN.{drop}
use Rattle.lists.specs.Fill.{Filling}
use Rattle.lists.specs.Join.{joined}
use Rattle.tables.specs.Tables.{levels_at}
use Rattle.tables.proofs.fill_looks.Given as goal

abbrev pub invariant-loop-s : goal.invariant-loop-s
invariant-loop-s l =
    (l.s ≤ l.s-end)
    × Filling (joined 0 l.s-end (levels_at l.b l.field) ++ drop (l.s-end * 128) l.initial.table) l.initial.table (l.s-end * 128) l.table (l.s * 128) (joined l.s (l.s-end - l.s) (levels_at l.b l.field))

abbrev pub decreases-loop-s : goal.decreases-loop-s
decreases-loop-s l = l.s-end - l.s
