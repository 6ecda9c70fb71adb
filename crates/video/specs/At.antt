-- 01, "From cell to dots": the cell at an address, from the memories, the font and the scan line.
use Rattle.std.specs.Prelude.{ℕ, ◌+◌, ◌/◌, ◌%◌, Bool, ◌&&◌, ◌||◌, List, length, get_or, eqb, leb, Err}
use Rattle.lists.specs.Choice.{pick, has_bit}
use Rattle.refusal.specs.Number.{Checked}
use Rattle.refusal.specs.declared.Refusal.TheVariants.{Size}
use Rattle.raster.specs.declared.Code.{Code}
use Rattle.raster.specs.Wide.{is_top, is_bottom}
use Rattle.raster.specs.Latch.{latched}
use Rattle.board.specs.declared.Page.{Page}
use Rattle.board.specs.declared.Board.{Board}
use Rattle.board.specs.Modes.{field_mode, setters_hidden, chip_b}
use Rattle.board.specs.Range.{memories_refused}
use Rattle.timing.specs.Fields.{lines_of}
use Rattle.shape.specs.Font.{Font, font_refused, groups_check, word_of}
use Rattle.video.specs.declared.Reading.{Reading}
use Rattle.video.specs.Scene.{scene_of}
use Rattle.video.specs.Look.{look_of}
use Rattle.video.specs.Cell.{cell_dots}

-- [board memory]
-- 3: a lent memory or font part of wrong size; then 12: a group above 4
abbrev pub lent_refused : (chars attrs : List ℕ) → Font → Bool
lent_refused chars attrs f = memories_refused (length chars) (length attrs) || font_refused f

abbrev pub lent_by : (size : Bool) → (groups : List ℕ) → Checked
lent_by size groups = pick size (Err Size) (groups_check groups)

abbrev pub lent_check : (chars attrs : List ℕ) → Font → Checked
lent_check chars attrs f = lent_by (lent_refused chars attrs f) f.groups

-- [R-4 halves] top halves use scan line floor(l/2), bottom halves floor((L+l)/2), for font, cursor, underline and strike
-- the scan line that line l of a row of L lines shows: a top half has each of the upper scan lines twice, a bottom half each of the lower ones (02, R-4)
abbrev pub scan_of : Code → (L l : ℕ) → ℕ
scan_of k L l = pick (is_top k) (l / 2) (pick (is_bottom k) ((L + l) / 2) l)

-- the scan line that a visible line shows, in a row with this code
abbrev pub scan_at : Page → Code → (line : ℕ) → ℕ
scan_at p k line = scan_of k (lines_of p) (line % lines_of p)

-- what a cell is: its code, its attributes, and whether the cursor's address is its own
pub record Content : Type 0 where
  pub code : ℕ
  pub attributes : ℕ
  pub here : Bool

-- how a page's cells are read
abbrev pub reading_of : Page → Reading
reading_of p = record { cursor = p.starts.cursor; runs = field_mode p; hidden = setters_hidden p; graphics = chip_b p }

-- [R-7 bit 5] bit 5 of the attribute byte means graphics on the 2677B
abbrev pub graphics_by : Reading → (attributes : ℕ) → Bool
graphics_by k attributes = k.graphics && has_bit attributes 32

-- [R-1 ACD]
-- where a cell that sets attributes has zero dots, it is shown as code 0, which has none
abbrev pub shown_code : (hidden : Bool) → (code byte : ℕ) → ℕ
shown_code hidden code byte = pick (hidden && leb 128 byte) 0 code

-- [R-4 latch]
-- what a cell's attribute byte sets at a column: in field mode nothing where the column shows a cell again, since the cell is latched by then
abbrev pub counted_byte : Reading → (again : Bool) → (byte : ℕ) → ℕ
counted_byte k again byte = pick (again && k.runs) 0 byte

-- [dots attributes]
-- the cell at an address, with the attributes that are valid there
abbrev pub content_at : Reading → (chars attrs : List ℕ) → (valid address : ℕ) → Content
content_at k chars attrs valid a = record {
  code = shown_code k.hidden (get_or chars a 0) (get_or attrs a 0);
  attributes = valid;
  here = eqb a k.cursor;
}

-- the same where the cell is fetched, and held is valid before it: nothing, in character mode
abbrev pub fetched_content : Reading → (chars attrs : List ℕ) → (held address : ℕ) → Content
fetched_content k chars attrs held a = content_at k chars attrs (latched (get_or attrs a 0) held) a

-- what a scan line of a field makes of it, where the scan line shows these words of the codes, in graphics mode or not
unfoldable pub scan_dots : Board → (words : Bool → ℕ → ℕ) → (scan field : ℕ) → Content → List ℕ
scan_dots b words scan field k =
    cell_dots
    (look_of (scene_of b scan field) k.attributes ((scene_of b scan field).gate && k.here))
    (words (graphics_by (reading_of b.page) k.attributes) k.code)
    b.page.video.dots.0

-- the dots of the cell at an address, on a scan line of a field, with the attributes that are valid there
unfoldable pub dots_at : Board → (chars attrs : List ℕ) → Font → (scan field valid address : ℕ) → List ℕ
dots_at b chars attrs f scan field valid a = scan_dots b (word_of f scan) scan field (content_at (reading_of b.page) chars attrs valid a)
