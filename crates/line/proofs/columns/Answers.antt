-- Rests on drawn-wide, the cells with each dot twice, or on drawn_plain, the cells as they are.
use Prim.Native.Nat.{◌+◌, ◌/◌}
use mathlib.Core.Path.{refl}
use native.Mathlib.Omega.{arith}
use Rattle.dots.specs.Half.{drawn_plain, drawn-wide}
use Rattle.line.specs.Walk.{Ready, length-column, ready-wide}
use Rattle.line.proofs.columns.Goals as goal

pub returns-then-wide : goal.returns-then-wide
returns-then-wide c =
    let half : Ready c.args.w c.args.row.now c.args.looks.now c.args.words.now c.args.flags.now ((c.args.n.0 + 1) / 2) = ready-wide _ _ _ _ _ _ c.requires.ready.0 c.if-wide.true in
    drawn-wide _ _ (omega (arith, half.least)) (length-column _ _ _ _ _) c.if-wide.true _ refl _ _
    (rw c.pairs_begun-count.ensures at c.cells.ensures) (rw (c.places-length.ensures, c.dots_of.ensures) at c.double.ensures)

pub returns-else-wide : goal.returns-else-wide
returns-else-wide c =
    drawn_plain c.if-wide.false _ _ _ (rw c.cells-count.ensures at c.cells-else-wide.ensures)
