-- Rests on the invariant: cells put, the cell that comes next, and what is valid before it.
use mathlib.Core.Path.{refl}
use native.Mathlib.Omega.{arith}
use lib.ListN.{take}
use Rattle.lists.specs.Tab.{tab, tab-turn}
use Rattle.raster.specs.Walk.{at_lt, moved_on, not-moved}
use Rattle.tables.specs.Tables.{cell_by}
use Rattle.tables.specs.Laws.{as-cell, runs_on, not-run}
use Rattle.tables.proofs.gather_round.Goals as goal

pub loop-number-init : goal.loop-number-init
unfolding tab
loop-number-init c = (not-moved _ _ c.requires.4, refl, not-run _ _ _ _ _)

pub cell_at-requires : goal.cell_at-requires
cell_at-requires c = (c.requires.0, c.requires.1, at_lt _ _ _ _ c.loop-number.invariant.0, refl)

pub loop-number-preserved : goal.loop-number-preserved
loop-number-preserved c =
    let inv = c.loop-number.invariant in
    let a = c.args in (
      moved_on _ _ _ _ inv.0 c.requires.3 c.requires.4 _ c.advance_one-cell.ensures,
      tab-turn (cell_by a.k a.chars.now a.attrs.now a.buffer a.held a.start.address) (take a.n a.cells.now) _ _ inv.1 _ (omega arith)
          (as-cell a.k a.chars.now _ _ _ _ _ _ inv.0 _ inv.2 _ c.cell_at.ensures.0),
      runs_on a.k a.chars.now _ _ _ _ _ _ inv.0 _ inv.2 _ c.cell_at.ensures.1,
    )
