-- Rests on the callees: what is valid, the code that is shown, its mode, its word and its look.
use Rattle.step.specs.Shown.{cell_shown}
use Rattle.step.proofs.cell_shown.Goals as goal

pub returns : goal.returns
unfolding cell_shown
returns c =
    rw (
      c.word_by.ensures,
      c.look_of.ensures,
      c.graphics_by-graphics.ensures,
      c.shown_code-letter.ensures,
      c.latched-valid.ensures,
      c.counted_byte-counted.ensures,
      c.reading_of-reading.ensures,
      c.again_at-again.ensures,
      c.from.ensures,
      c.cursor_at-cursor.ensures,
      c.scene_in-scene.ensures,
    )
