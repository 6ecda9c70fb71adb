-- 01, "Clock and frame" and "From cell to dots": a clock's signals and dots.
use Rattle.std.specs.Prelude.{ℕ, ◌+◌, ◌-◌, ◌%◌, Bool, ◌&&◌, ◌||◌, not, List, ◌++◌, eqb, get_or, replicate}
use Rattle.lists.specs.Choice.{pick}
use Rattle.units.specs.Units.{during}
use Rattle.raster.specs.Latch.{latched}
use Rattle.raster.specs.Wide.{code_of, is_wide, again_at}
use Rattle.board.specs.declared.Board.{Board}
use Rattle.timing.specs.Fields.{hact_of, hfp_of, hsync_of, vfp_of, vsync_of, visible_of, blink_of}
use Rattle.shape.specs.Font.{Font}
use Rattle.video.specs.Scene.{displayed, blink_at, scene_of, cursor_at}
use Rattle.video.specs.Cell.{column_of}
use Rattle.video.specs.At.{scan_at, reading_of, counted_byte, dots_at}
use Rattle.place.specs.Place.{active_at}
use Rattle.step.specs.declared.Signals.{Signals}

-- the scan line of the place, in a row with this code
abbrev pub scan_in : Board → (code : ℕ) → ℕ
scan_in b k = scan_at b.page (code_of k) b.place.line.0

-- [clock parts] a line runs active, front porch, sync, back porch, and a frame likewise in lines
-- a line runs active, front porch, sync, back porch; a frame likewise in lines
abbrev pub hsync_in : Board → Bool
hsync_in b = during (hact_of b.page + hfp_of b.page) (hsync_of b.page) b.place.clock.0

-- [clock parts]
abbrev pub vsync_in : Board → Bool
vsync_in b = during ((visible_of b.page).0 + vfp_of b.page) (vsync_of b.page) b.place.line.0

-- [clock blank] BLANK is high off the active clocks of visible lines, and always when the display is off
unfoldable pub signals_of : Board → (code address : ℕ) → Signals
signals_of b k address = record {
  hsync = hsync_in b;
  vsync = vsync_in b;
  blank = not (active_at b.page b.place) || not (displayed b);
  cursor = active_at b.page b.place && cursor_at (scene_of b (scan_in b k) b.place.field) address;
  blink = blink_at (blink_of b.page) b.place.field;
}

-- [dots step]
-- of twelve dot places those past the cell's d dots are 0
abbrev pub padded : List ℕ → ℕ → List ℕ
padded dots d = dots ++ replicate (12 - d) 0

-- an odd column
abbrev pub odd_in : Board → Bool
odd_in b = eqb (b.place.clock.0 % 2) 1

-- the attributes valid at an active clock: what its cell sets there, over what is held
abbrev pub valid_in : Board → (attrs : List ℕ) → (code held address : ℕ) → ℕ
valid_in b attrs k held a = latched (counted_byte (reading_of b.page) (again_at (code_of k) b.place.clock.0) (get_or attrs a 0)) held

-- the column's dots on an active clock of a row with this code, where held is valid before it; the blank level off the active clocks
unfoldable pub clock_dots : Board → (chars attrs : List ℕ) → Font → (code held address : ℕ) → List ℕ
clock_dots b chars attrs f k held address =
    padded
    (pick (active_at b.page b.place)
    (column_of (is_wide (code_of k)) (odd_in b) (dots_at b chars attrs f (scan_in b k) b.place.field (valid_in b attrs k held address) address))
    (replicate b.page.video.dots.0 (scene_of b (scan_in b k) b.place.field).blank))
    b.page.video.dots.0
