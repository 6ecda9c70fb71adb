-- What a clock shows, before its dots are put: CURSOR, and a cell's look and word. Only private functions cite it.
-- Laws ties it to the signals and dots of Signals.
use Rattle.std.specs.Prelude.{ℕ, Bool, false, ◌&&◌, ◌||◌, not, List, get_or}
use Rattle.lists.specs.Choice.{pick}
use Rattle.refusal.specs.Number.{unrefused}
use Rattle.raster.specs.Wide.{code_of, is_wide}
use Rattle.board.specs.declared.Board.{Board}
use Rattle.board.specs.Modes.{setters_hidden}
use Rattle.timing.specs.Fields.{blink_of}
use Rattle.shape.specs.declared.FontLine.{FontLine}
use Rattle.shape.specs.Font.{font_line_of, word_by}
use Rattle.video.specs.Scene.{displayed, blink_at, scene_of, cursor_at}
use Rattle.video.specs.Look.{blank_look, look_of}
use Rattle.video.specs.Cell.{cell_dots, column_of}
use Rattle.video.specs.At.{reading_of, graphics_by, shown_code}
use Rattle.place.specs.Place.{active_at, next_place}
use Rattle.step.specs.declared.Signals.{Signals}
use Rattle.step.specs.declared.Shown.{Shown}
use Rattle.step.specs.declared.Clock.{Clock}
use Rattle.step.specs.Signals.{scan_in, hsync_in, vsync_in, odd_in, padded, valid_in}
use Rattle.step.specs.Step.{address_of, held_of, code_in}

-- a clock's signals, from its CURSOR
unfoldable pub signals_with : Board → (cursor : Bool) → Signals
signals_with b cursor = record {
  hsync = hsync_in b;
  vsync = vsync_in b;
  blank = not (active_at b.page b.place) || not (displayed b);
  cursor = cursor;
  blink = blink_at (blink_of b.page) b.place.field;
}

-- the cell at an address, with what its scan line takes from the font
unfoldable pub cell_shown : Board → (chars attrs words flags : List ℕ) → FontLine → (code held address : ℕ) → Shown
cell_shown b chars attrs words flags line k held a = record {
  cursor = cursor_at (scene_of b (scan_in b k) b.place.field) a;
  look =
      look_of (scene_of b (scan_in b k) b.place.field)
      (valid_in b attrs k held a)
      (cursor_at (scene_of b (scan_in b k) b.place.field) a);
  word =
      word_by words flags line
      (graphics_by (reading_of b.page) (valid_in b attrs k held a))
      (shown_code (setters_hidden b.page) (get_or chars a 0) (get_or attrs a 0));
}

-- the blank level is the same on every scan line
unfoldable pub blank_shown : Board → Shown
blank_shown b = record { cursor = false; look = blank_look (scene_of b 0 b.place.field).blank; word = 0 }

-- what a clock's scan line takes from the font
unfoldable pub line_in : Board → (active : Bool) → (code : ℕ) → (unshifted shifted groups : List ℕ) → FontLine
line_in b active k unshifted shifted groups = pick active (font_line_of unshifted shifted groups (scan_in b k)) (record { unshifted = 0; shifted = 0; group = 0 })

unfoldable pub shown_in : Board → (chars attrs words flags : List ℕ) → FontLine → (code held address : ℕ) → Shown
shown_in b chars attrs words flags line k held a =
    pick (active_at b.page b.place) (cell_shown b chars attrs words flags line k held a) (blank_shown b)

-- the dots of a cell, or of one of its halves, in twelve places
abbrev pub dots_shown : Board → (code : ℕ) → Shown → List ℕ
dots_shown b k s =
    padded
    (column_of (active_at b.page b.place && is_wide (code_of k)) (odd_in b) (cell_dots s.look s.word b.page.video.dots.0))
    b.page.video.dots.0

-- a clock that nothing refuses
unfoldable pub clock_with : Board → (chars attrs words flags : List ℕ) → FontLine → Clock
clock_with b chars attrs words flags line = record {
  refusal = unrefused;
  signals = signals_with b (shown_in b chars attrs words flags line (code_in b chars) (held_of b chars) (address_of b chars)).cursor;
  address = address_of b chars;
  dots = dots_shown b (code_in b chars) (shown_in b chars attrs words flags line (code_in b chars) (held_of b chars) (address_of b chars));
  place = next_place b.page chars attrs b.place;
}
