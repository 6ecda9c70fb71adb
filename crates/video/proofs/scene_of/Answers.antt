-- Rests on the callees: each field of the scene is one of their answers.
use Rattle.video.specs.Scene.{scene_of}
use Rattle.timing.specs.Laws.{blink-range, period-some}
use Rattle.video.proofs.scene_of.Goals as goal

pub blink_at-requires : goal.blink_at-requires
blink_at-requires c = rw c.blink_of.ensures (blink-range _)

pub cursor_gate-requires : goal.cursor_gate-requires
cursor_gate-requires c = rw c.cursor_of.ensures (period-some _)

pub returns : goal.returns
unfolding scene_of
returns c =
    rw (
      c.cursor_gate.ensures,
      c.has-3.ensures,
      c.cursor_of.ensures,
      c.eq-2.ensures,
      c.chip_b.ensures,
      c.eq.ensures,
      c.underline_of.ensures,
      c.blink_at.ensures,
      c.blink_of.ensures,
      c.blank_level.ensures,
      c.has-2.ensures,
      c.has.ensures,
      c.has-bkgnd.ensures,
    )
