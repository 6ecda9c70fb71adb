-- A row's cells as numbers, and the tables by mark and by sign. Assumes nothing.
use Rattle.lists.specs.Join.{joined}
use Rattle.std.specs.Prelude.{drop, ◌≡◌, ℕ, ◌+◌, ◌*◌, ◌/◌, ◌%◌, Bool, ◌&&◌, List, ◌++◌, eqb, leb}
use Rattle.lists.specs.Choice.{pick}
use Rattle.lists.specs.Tab.{tab}
use Rattle.raster.specs.declared.Buffer.{Buffer}
use Rattle.raster.specs.Moves.{advance_by}
use Rattle.raster.specs.Latch.{sets_of, last_set}
use Rattle.board.specs.declared.Board.{Board}
use Rattle.shape.specs.declared.FontLine.{FontLine}
use Rattle.shape.specs.declared.FontLines.{FontLines}
use Rattle.shape.specs.Font.{font_line_at, word_by}
use Rattle.video.specs.declared.Scene.{Scene}
use Rattle.video.specs.declared.Look.{Look}
use Rattle.video.specs.declared.Reading.{Reading}
use Rattle.video.specs.Scene.{scene_of}
use Rattle.video.specs.Look.{look_of}
use Rattle.video.specs.At.{Content, graphics_by, fetched_content}
use Rattle.dots.specs.Stores.{under_of, wide_of}

-- a cell's mark has its attributes in the low six bits, and 64 where the cursor's address is its own
abbrev pub mark_of : (attributes : ℕ) → (here : Bool) → ℕ
mark_of attributes here = attributes % 64 + pick here 64 0

-- what the character generator's latch of nine bits holds (002): the code, and 256 in graphics mode
abbrev pub sign_of : (graphics : Bool) → (code : ℕ) → ℕ
sign_of graphics code = code + pick graphics 256 0

abbrev pub cell_number : (sign attributes : ℕ) → (here : Bool) → ℕ
cell_number sign attributes here = sign + 512 * mark_of attributes here

abbrev pub number_for : Reading → Content → ℕ
number_for r k = cell_number (sign_of (graphics_by r k.attributes) k.code) k.attributes k.here

-- what is valid before the cell c moves from the row's start, where held is valid before the row
unfoldable pub held_by : (runs : Bool) → (attrs : List ℕ) → Buffer → (held start c : ℕ) → ℕ
held_by runs attrs buffer held start c = last_set (λ i. sets_of runs attrs (advance_by buffer i start)) held c

-- that cell
unfoldable pub cell_by : Reading → (chars attrs : List ℕ) → Buffer → (held start c : ℕ) → ℕ
cell_by k chars attrs buffer held start c = number_for k (fetched_content k chars attrs (held_by k.runs attrs buffer held start c) (advance_by buffer c start))

-- a look's two levels as one number
abbrev pub levels_by : Look → ℕ
levels_by k = k.symbol + 4 * under_of k

-- those of attributes on a scan line, at the cursor's address or not
unfoldable pub levels_for : Scene → Bool → ℕ → ℕ
levels_for s here attributes = levels_by (look_of s attributes (s.gate && here))

-- those of a mark
unfoldable pub levels_of : Scene → ℕ → ℕ
levels_of s mark = levels_by (look_of s mark (s.gate && eqb (mark / 64 % 2) 1))

unfoldable pub levels_at : Board → (field scan : ℕ) → List ℕ
levels_at b field scan = tab 128 (levels_of (scene_of b scan field))

-- a code's dots on a scan line, in graphics mode or not, as the low bits of a number
abbrev pub code_word : (words flags : List ℕ) → FontLine → (graphics : Bool) → (d code : ℕ) → ℕ
code_word words flags line graphics d code = wide_of (word_by words flags line graphics code) d

-- those of a sign
unfoldable pub shown_word : (words flags : List ℕ) → FontLine → (d sign : ℕ) → ℕ
shown_word words flags line d sign = code_word words flags line (leb 256 sign) d (sign % 256)

unfoldable pub words_at : (words flags : List ℕ) → FontLines → (d scan : ℕ) → List ℕ
words_at words flags lines d scan = tab 512 (shown_word words flags (font_line_at lines scan) d)

-- ---- the lent tables afterwards; what stands beyond stays

-- n cells of a row, and what is valid after them
abbrev pub Gathers : Reading → (chars attrs : List ℕ) → Buffer → (held start n : ℕ) → (cells : List ℕ) → (r : ℕ) → (left : List ℕ) → Type 0
Gathers k chars attrs buffer held start n cells r left =
    (r ≡ held_by k.runs attrs buffer held start n) × (left ≡ tab n (cell_by k chars attrs buffer held start) ++ drop n cells)

-- a scan line's levels by mark, and those of n scan lines
abbrev pub looks_put : Scene → (table : List ℕ) → List ℕ
looks_put s table = tab 128 (levels_of s) ++ drop 128 table

abbrev pub looks_filled : Board → (field n : ℕ) → (table : List ℕ) → List ℕ
looks_filled b field n table = joined 0 n (levels_at b field) ++ drop (n * 128) table

-- the dots by sign of n scan lines
abbrev pub words_filled : (words flags : List ℕ) → FontLines → (n d : ℕ) → (table : List ℕ) → List ℕ
words_filled words flags lines n d table = joined 0 n (words_at words flags lines d) ++ drop (n * 512) table
