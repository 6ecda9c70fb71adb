-- Rests on dots-bound: an accepted page has few enough dots in a line.
use Prim.Native.Nat.{◌*◌, ◌≤◌}
use native.Mathlib.Omega.{arith}
use Rattle.timing.specs.Fields.{timing_of, counts_of}
use Rattle.timing.specs.Laws.{dots-bound}
use Rattle.picture.specs.Plan.{plan_of}
use Rattle.picture.proofs.plan_of.Goals as goal

pub dots_of-requires : goal.dots_of-requires
unfolding timing_of counts_of
dots_of-requires c =
    let width-le : c.timing_of-t.result.counts.hact.0 * c.args.p.video.dots.0 ≤ 3072 = rw c.timing_of-t.ensures (dots-bound c.args.p c.requires) in
    omega (arith, width-le)

pub returns : goal.returns
unfolding plan_of timing_of counts_of
returns c =
    rw (
      c.reading_of.ensures,
      c.buffer_of.ensures,
      c.scans_of.ensures,
      c.places.ensures,
      c.places-width.ensures,
      c.dots_of.ensures,
      c.timing_of-t.ensures,
    )
