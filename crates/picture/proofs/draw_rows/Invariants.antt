-- Rests on the loop that lends each turn its own stretch (lists Join), and on what is valid before each row.
use Prim.Native.Nat.{◌*◌, ◌-◌}
use mathlib.Core.Path.{◌≡◌}
use mathlib.Core.List.{◌++◌}
use lib.ListN.{drop}
use Rattle.lists.specs.Fill.{Filling}
use Rattle.lists.specs.Join.{joined}
use Rattle.latch.specs.Held.{held_at}
use Rattle.picture.specs.Plan.{row_drawn}
use Rattle.picture.proofs.draw_rows.Given as goal

abbrev pub invariant-loop-r : goal.invariant-loop-r
invariant-loop-r l =
    Filling (joined 0 l.r-end (row_drawn l.p l.page l.chars l.attrs l.t.shown.now l.t.looks.now) ++ drop (l.r-end * l.p.size) l.initial.out) l.initial.out (l.r-end * l.p.size) l.out (l.r * l.p.size)
    (joined l.r (l.r-end - l.r) (row_drawn l.p l.page l.chars l.attrs l.t.shown.now l.t.looks.now))
    × (l.held ≡ held_at l.page l.chars l.attrs l.r 0)
