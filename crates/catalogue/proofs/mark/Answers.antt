-- Rests on the invariant: the cells marked so far, and the one that comes next.
use Rattle.std.proofs.Common.{sym, ap, ◌∙◌, arith}
use Rattle.raster.specs.declared.Cell.{Cell}
use Rattle.raster.specs.Moves.{cell, advance_by-zero, advance_by-lt}
use Rattle.catalogue.specs.Marks.{marked-none, marked_more, one_on}
use Rattle.catalogue.proofs.mark.Goals as goal

pub loop-init : goal.loop-init
loop-init c = (ap cell (sym (advance_by-zero _ _ c.requires.2)), marked-none _ _ _ c.requires.0)

pub bounds-marks-cell : goal.bounds-marks-cell
bounds-marks-cell c =
    rw c.loop.invariant.0 (omega (arith, c.requires.0, advance_by-lt c.args.buffer c.loop.counter c.args.start.address))

pub loop-preserved : goal.loop-preserved
loop-preserved c =
    let inv = c.loop.invariant in (
      c.advance_one-cell.ensures ∙ one_on _ c.requires.1 _ _ _ c.requires.2 inv.0,
      marked_more _ _ _ _ _ inv.1 _ (ap (λ (x : Cell). x.address) inv.0),
    )
