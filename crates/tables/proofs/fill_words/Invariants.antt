-- Rests on the loop that lends each turn its own stretch (lists Join), one scan line a turn.
use Prim.Native.Nat.{◌≤◌, ◌-◌, ◌*◌}
use mathlib.Core.List.{◌++◌}
use lib.ListN.{drop}
use Rattle.lists.specs.Fill.{Filling}
use Rattle.lists.specs.Join.{joined}
use Rattle.tables.specs.Tables.{words_at}
use Rattle.tables.proofs.fill_words.Given as goal

abbrev pub invariant-loop-s : goal.invariant-loop-s
invariant-loop-s l =
    (l.s ≤ l.s-end)
    × Filling (joined 0 l.s-end (words_at l.words l.flags l.lines l.d) ++ drop (l.s-end * 512) l.initial.table) l.initial.table (l.s-end * 512) l.table (l.s * 512)
    (joined l.s (l.s-end - l.s) (words_at l.words l.flags l.lines l.d))

abbrev pub decreases-loop-s : goal.decreases-loop-s
decreases-loop-s l = l.s-end - l.s
