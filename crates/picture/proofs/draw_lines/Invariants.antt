-- Rests on the loop that lends each turn its own stretch (lists Join), one line a turn.
use Prim.Native.Nat.{◌*◌, ◌-◌}
use mathlib.Core.List.{◌++◌}
use lib.ListN.{drop}
use Rattle.lists.specs.Fill.{Filling}
use Rattle.lists.specs.Join.{joined}
use Rattle.picture.specs.Plan.{line_from}
use Rattle.picture.proofs.draw_lines.Given as goal

abbrev pub invariant-loop-s : goal.invariant-loop-s
invariant-loop-s l =
    Filling (joined 0 l.s-end (line_from l.p l.k l.cells l.t.shown.now l.t.looks.now) ++ drop (l.s-end * l.p.width) l.initial.out) l.initial.out (l.s-end * l.p.width) l.out (l.s * l.p.width)
    (joined l.s (l.s-end - l.s) (line_from l.p l.k l.cells l.t.shown.now l.t.looks.now))
