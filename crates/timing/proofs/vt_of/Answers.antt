-- Rests on visible-bound and vsync-bound, which keep the sum below 2^32.
use Rattle.timing.specs.Laws.{visible-bound, vsync-bound}
use native.Mathlib.Omega.{arith}
use Rattle.timing.proofs.vt_of.Goals as goal

pub plus-to_sync-requires : goal.plus-to_sync-requires
plus-to_sync-requires c = rw (c.vfp_of.ensures, c.visible_of.ensures) (omega (arith, visible-bound c.args.p))

pub plus-requires : goal.plus-requires
plus-requires c =
    rw (c.vsync_of.ensures, c.plus-to_sync.ensures, c.vfp_of.ensures, c.visible_of.ensures)
    (omega (arith, visible-bound c.args.p, vsync-bound c.args.p))

pub plus-requires-2 : goal.plus-requires-2
plus-requires-2 c =
    rw (
      c.vbp_of.ensures,
      c.plus.ensures,
      c.vsync_of.ensures,
      c.plus-to_sync.ensures,
      c.vfp_of.ensures,
      c.visible_of.ensures,
    )
    (omega (arith, visible-bound c.args.p, vsync-bound c.args.p))
