-- 01, "From cell to dots": what is the same for all cells of a scan line. BLINK and the underline line are signals of a line in 003 too (DADD11, DADD10).
use Rattle.std.specs.Prelude.{ℕ, ◌*◌, ◌/◌, ◌%◌, Bool, ◌&&◌, ◌||◌, not, eqb, ltb, leb}
use Rattle.lists.specs.Choice.{has_bit}
use Rattle.board.specs.declared.Board.{Board}
use Rattle.board.specs.Modes.{chip_b}
use Rattle.timing.specs.declared.CursorLook.{CursorLook}
use Rattle.timing.specs.Fields.{cursor_of, underline_of, blink_of}
use Rattle.video.specs.declared.Scene.{Scene}
use Rattle.video.specs.Levels.{blank_level}

-- [register at-once]
-- the display counts as off where its switch is off or the board is not active
abbrev pub displayed : Board → Bool
displayed b = has_bit b.page.switches 1 && leb 2 b.resets

-- [dots blink] BLINK is high in the fourth quarter of its period
-- BLINK is high in the fourth quarter of its period
abbrev pub blink_at : (period field : ℕ) → Bool
blink_at period field = leb (3 * (period / 4)) (field % period)

-- [dots cursor] the cursor gate; the same cell shown twice has two cursors
-- cursor on, scan line from first to last cursor line, and, if it blinks, the first half of its period
abbrev pub cursor_gate : CursorLook → Bool → (scan field : ℕ) → Bool
cursor_gate k on scan field =
    on && leb k.first.0 scan && leb scan k.last.0 && (not k.blinks || ltb (field % k.period) (k.period / 2))

-- [R-7 strike] bit 5 of the attribute byte means graphics on the 2677B, and there is no strike
unfoldable pub scene_of : Board → (scan field : ℕ) → Scene
scene_of b scan field = record {
  shown = displayed b;
  blank = blank_level (has_bit b.page.switches 8) (has_bit b.page.switches 4);
  bkgnd = has_bit b.page.switches 4;
  blink = blink_at (blink_of b.page) field;
  underline = eqb scan (underline_of b.page).0;
  strike = not (chip_b b.page) && eqb scan b.page.video.strike;
  gate = cursor_gate (cursor_of b.page) (has_bit b.page.switches 2) scan field;
  cursor = b.page.starts.cursor;
}

-- [dots cursor]
-- the cursor gate is open, and the fetched address equals the cursor address
abbrev pub cursor_at : Scene → ℕ → Bool
cursor_at s address = s.gate && eqb address s.cursor
