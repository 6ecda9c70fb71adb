-- Rests on drawn-wide, the cells with each dot twice, or on plain-line, the cells as they are.
use native.Mathlib.Omega.{arith}
use Rattle.dots.specs.Half.{drawn-wide}
use Rattle.picture.specs.Plan.{length-cell, plain-line}
use Rattle.picture.proofs.draw_columns.Goals as goal

pub returns-then-wide : goal.returns-then-wide
returns-then-wide c =
    let sheet = c.args.t.fit in
    drawn-wide _ _ (omega (arith, sheet.least)) (length-cell _ _ _ _ _) c.if-wide.true _ sheet.width_is _ _ (rw c.pairs_begun-count.ensures at c.draw_cells.ensures) c.double.ensures

pub returns-else-wide : goal.returns-else-wide
returns-else-wide c =
    plain-line c.args.t.plan _ _ _ _ _ c.if-wide.false c.args.t.fit.width_is (rw c.cells-count.ensures at c.draw_cells-else-wide.ensures)
