-- Rests on Index.found-is: the record that was found is told of an accepted row; covered ends it.
use Prim.Native.Nat.{◌<◌}
use mathlib.Core.Path.{◌∙◌}
use native.Mathlib.Omega.{arith}
use Rattle.callers.specs.Index.{columns-there, column-lt, covered}
use Rattle.callers.proofs.index.found_holds.Goals as goal

pub offset_bounds-cells-column : goal.offset_bounds-cells-column
offset_bounds-cells-column c =
    let column : c.args.column < 256 =
    column-lt _ _ _ _ _ _ _ c.record_of_row-answer.ensures c.in-Ok.ensures _ c.if-answer-count.false in
    record { fits = omega (arith, column) }

pub bounds-cells-column : goal.bounds-cells-column
bounds-cells-column c =
    let column : c.args.column < 256 =
    column-lt _ _ _ _ _ _ _ c.record_of_row-answer.ensures c.in-Ok.ensures _ c.if-answer-count.false in
    column

pub covers_at-requires : goal.covers_at-requires
covers_at-requires c =
    let at = columns-there _ _ _ _ _ _ _ c.record_of_row-answer.ensures c.in-Ok.ensures _ c.if-answer-count.false in
    (at.2, at.3)

pub returns : goal.returns
returns c =
    c.covers_at.ensures ∙ covered _ _ _ _ _ _ _ c.record_of_row-answer.ensures c.in-Ok.ensures _ c.if-answer-count.false
