-- Rests on the loop that lends each turn its own stretch (lists Join), one step a turn from the state.
use Prim.Native.Nat.{◌-◌, ◌*◌}
use mathlib.Core.Path.{◌≡◌}
use mathlib.Core.List.{◌++◌}
use lib.ListN.{drop}
use Rattle.lists.specs.Fill.{Filling}
use Rattle.lists.specs.Join.{joined}
use Rattle.shape.specs.Font.{font_of}
use Rattle.line.specs.Line.{column_dots}
use Rattle.step.specs.After.{after}
use Rattle.agreement.specs.Lines.{clock_of}
use Rattle.callers_stepped.proofs.lines.step_line.Given as goal

abbrev pub invariant-loop-c : goal.invariant-loop-c
invariant-loop-c l =
    (l.at ≡ after l.b l.chars l.attrs (font_of l.words l.flags l.unshifted l.shifted l.groups) (clock_of l.b l.field l.line l.c))
    × Filling (joined 0 l.n (column_dots l.b l.chars l.attrs (font_of l.words l.flags l.unshifted l.shifted l.groups) l.line l.field) ++ drop (l.n * l.b.page.video.dots.0) l.initial.out) l.initial.out
    (l.n * l.b.page.video.dots.0) l.out (l.c * l.b.page.video.dots.0) (joined l.c (l.n - l.c) (column_dots l.b l.chars l.attrs (font_of l.words l.flags l.unshifted l.shifted l.groups) l.line l.field))
