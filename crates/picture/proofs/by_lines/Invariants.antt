-- Rests on the loop that lends each turn its own stretch (lists Join), one line a turn.
use Prim.Native.Nat.{◌*◌, ◌-◌}
use mathlib.Core.List.{◌++◌}
use lib.ListN.{drop}
use Rattle.lists.specs.Fill.{Filling}
use Rattle.lists.specs.Join.{joined}
use Rattle.picture.specs.Agree.{shaped_at}
use Rattle.picture.proofs.by_lines.Given as goal

abbrev pub invariant-loop-l : goal.invariant-loop-l
invariant-loop-l l =
    Filling (joined 0 l.l-end (shaped_at l.b l.chars l.attrs l.words l.flags l.lines l.field) ++ drop (l.l-end * l.p.width) l.initial.out) l.initial.out (l.l-end * l.p.width) l.out (l.l * l.p.width)
    (joined l.l (l.l-end - l.l) (shaped_at l.b l.chars l.attrs l.words l.flags l.lines l.field))
