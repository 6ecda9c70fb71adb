-- Rests on the invariant: cells put, and what is valid before the next one.
use Prim.Native.Nat.{◌+◌, ◌<◌}
use mathlib.Core.Path.{refl, ap, sym}
use native.Mathlib.Omega.{arith}
use lib.ListN.{take}
use Rattle.std.proofs.Common.{length-take-le}
use Rattle.lists.specs.Tab.{tab, tab-turn}
use Rattle.raster.specs.Moves.{cell as cell_of}
use Rattle.tables.specs.Tables.{cell_by}
use Rattle.tables.specs.Laws.{as-cell, runs_on, not-run}
use Rattle.tables.specs.Run.{whole, whole-at}
use Rattle.tables.proofs.gather_run.Goals as goal

pub loop-c-init : goal.loop-c-init
unfolding tab
loop-c-init c = (refl, not-run _ _ _ _ _)

pub cell_at-requires : goal.cell_at-requires
cell_at-requires c = (c.requires.0, c.requires.1, omega (arith, length-take-le c.args.n c.args.cells.now c.requires.2), refl)

pub loop-c-preserved : goal.loop-c-preserved
loop-c-preserved c =
    let inside : c.args.from + c.loop-c.c < 16384 = omega (arith, length-take-le c.args.n c.args.cells.now c.requires.2) in
    let inv = c.loop-c.invariant in
    let a = c.args in
    let at = ap cell_of (sym (whole-at a.from c.loop-c.c inside)) in (
      tab-turn (cell_by a.k a.chars.now a.attrs.now whole a.held a.from) (take a.n a.cells.now) _ _ inv.0 _ (omega arith)
          (as-cell a.k a.chars.now _ _ _ _ _ _ at _ inv.1 _ c.cell_at.ensures.0),
      runs_on a.k a.chars.now _ _ _ _ _ _ at _ inv.1 _ c.cell_at.ensures.1,
    )
