-- The promises are not empty: worked pages that nothing refuses, as boards and as files, and promises read off them. Assumes nothing.
use Rattle.std.specs.Prelude.{ℕ, ◌+◌, ◌*◌, ◌-◌, ◌<◌, ◌≡◌, refl, true, List, [], ◌∷◌, ◌++◌, length, replicate}
use Rattle.std.proofs.Common.{arith, ne_eqb}
use Rattle.lists.specs.Search.{any_below, any_some, first-lt}
use Rattle.refusal.specs.Number.{unrefused}
use Rattle.raster.specs.Moves.{advance_by, to_last}
use Rattle.raster.specs.Latch.{last_set}
use Rattle.board.specs.declared.Page.{Page}
use Rattle.board.specs.declared.Board.{Board}
use Rattle.board.specs.State.{board_of}
use Rattle.board.specs.Layout.{layout_of}
use Rattle.board.specs.Range.{address_refused}
use Rattle.fetch.specs.Rows.{code_at, entry_of, row_start, cell_at, fetched_of, fetch_at, moved_of}
use Rattle.latch.specs.Held.{held_at}
use Rattle.timing.specs.Fields.{buffer_of, counts_of, coded_of, lines_of, table_of, hbp_of, vsync_of}
use Rattle.timing.specs.Check.{page_check, state_refused, call_check}
use Rattle.shape.specs.Font.{Font, font_of, groups_refused}
use Rattle.catalogue.specs.ToTable.{own_check, fetches_cell, table_places, unfetched_at, table_place, as_table_check}
use Rattle.catalogue.specs.ToSheet.{follows_row, rows_apart, as_sheet_check}
use Rattle.step.specs.Step.{step_check}
use Rattle.files.specs.File.{read_check, file_check, length_refused, long_at, head_of, file_of}
use Rattle.files.specs.Page.{word_at, page_at, tail_of}
use Rattle.files.specs.FontFile.{font_length, font_check, font_head}
use Rattle.feldrime.specs.Pages.{font_for}
use Rattle.numbers.specs.Numbers.{numbers_of_check}
use Rattle.numbers.specs.Files.{page_read_size}
use Rattle.feldrime.specs.Answers.{answer_of}
use Rattle.agreement.specs.Cases.{page}
use Rattle.agreement.specs.FilesFromC.{answer_c, accepted-steps}

-- A1's page, memories and font of zeros
unfoldable pub sheet : Board
sheet = board_of (page 35 80 0 16383 0 0)

unfoldable pub memory : List ℕ
memory = replicate 16384 0

unfoldable pub font : Font
font = font_of (replicate 1152 0) (replicate 128 0) (replicate 9 0) (replicate 9 0) []

pub sheet-taken : step_check sheet memory memory font ≡ unrefused
unfolding sheet memory font page groups_refused call_check page_check address_refused coded_of lines_of table_of hbp_of vsync_of state_refused layout_of
sheet-taken = refl

-- its numbers are given, so `board-back` and `numbers-back` speak of something
pub sheet-saved : numbers_of_check sheet 32 ≡ unrefused
unfolding sheet page numbers_of_check page_check address_refused coded_of table_of hbp_of
sheet-saved = refl

-- A7, by a single step of the board: with screen start 1 below the buffer a cell outside it is fetched, so `stays-inside` has to ask
unfoldable pub low : Board
low = board_of (page 35 80 2048 3071 0 0)

pub low-taken : step_check low memory memory font ≡ unrefused
unfolding low memory font groups_refused page call_check page_check address_refused coded_of lines_of table_of hbp_of vsync_of state_refused layout_of
low-taken = refl

-- A1's page and the font as files, and buffers of zeros to read them into: neither is refused, so neither is a step
abbrev pub file : List ℕ
file = file_of sheet.page memory memory

abbrev pub font_file : List ℕ
font_file = font_head 1 ++ replicate (font_length 1) 0

abbrev pub numbers : List ℕ
numbers = replicate 32 0

pub page-taken : (answer_of (read_check file (page_read_size (length numbers) (length memory) (length memory)))).refusal ≡ 0
unfolding sheet memory page read_check file_check length_refused long_at word_at tail_of head_of file_of page_at page_check address_refused coded_of table_of hbp_of layout_of
page-taken = refl

pub font-taken : (font_for font_file (font_of font.words font.flags font.unshifted font.shifted font.groups)).refusal ≡ 0
unfolding font font_check file_check groups_refused length_refused long_at word_at
font-taken = refl

pub from-files : (n : ℕ)
    → (answer_c file numbers memory memory page-taken font_file font.words font.flags font.unshifted font.shifted font.groups font-taken n).refusal ≡ 0
from-files = (accepted-steps file numbers memory memory page-taken font_file font.words font.flags font.unshifted font.shifted font.groups font-taken).1

-- ---- a page of the catalogue: version 2 in field mode, with the row table on and codes for its rows

-- A1's registers with IR0[7] and IR2[7] set
abbrev catalogued : (rows hact : ℕ) → (codes table : ℕ) → (version switches : ℕ) → Page
catalogued rows hact codes table version switches = record {
  version = version;
  irs = (72 + 128 * codes) ∷ 34 ∷ (26 + 128 * table) ∷ 8 ∷ (rows - 1) ∷ (hact - 1) ∷ 0 ∷ 0 ∷ 0 ∷ 240 ∷ 0 ∷ 0 ∷ 0 ∷ 0 ∷ 0 ∷ [];
  starts = record { start1 = 0; cursor = 0; start2 = 0 };
  switches = switches;
  video = record { dots = record { 0 = 8 }; strike = 0; chip = 0 };
}

unfoldable pub coded : Board
coded = board_of (catalogued 24 80 1 1 2 17)

-- every entry is 4040 hex: cell 64, double width; every cell sets reverse
unfoldable pub entries : List ℕ
entries = replicate 16384 64

unfoldable pub reversed : List ℕ
reversed = replicate 16384 129

pub coded-taken : step_check coded entries reversed font ≡ unrefused
unfolding coded entries reversed font groups_refused call_check page_check address_refused coded_of lines_of table_of hbp_of vsync_of state_refused layout_of
coded-taken = refl

pub coded-held : held_at coded.page entries reversed 0 1 ≡ 129
unfolding coded entries reversed held_at last_set cell_at fetch_at moved_of fetched_of row_start lines_of vsync_of counts_of coded_of table_of code_at entry_of advance_by to_last buffer_of
coded-held = refl

-- ---- R-5's moves take something

-- a sheet of one cell, and a page whose second entry is where its first row of one cell ends
pub small : Board
small = board_of (catalogued 1 1 0 0 1 1)

small-own : own_check small (length memory) ≡ unrefused
unfolding small memory own_check call_check page_check address_refused coded_of lines_of table_of hbp_of vsync_of state_refused layout_of
small-own = refl

room-at-1 : unfetched_at small.page memory 1 ≡ true
unfolding small memory unfetched_at fetches_cell any_below fetch_at fetched_of lines_of vsync_of counts_of coded_of table_of code_at row_start advance_by to_last buffer_of
room-at-1 = refl

pub as-table-taken : as_table_check small memory ≡ unrefused
unfolding small coded_of table_of as_table_check table_place
as-table-taken =
    let n : ℕ = table_places small.page in
    let found : table_place small.page memory < n = first-lt (unfetched_at small.page memory) n (any_some (unfetched_at small.page memory) n 1 (omega arith) room-at-1) in
    rw (small-own, ne_eqb (table_place small.page memory) n (λ e. absurd (omega (arith, e, found))))

pub follows_on : Board
follows_on = board_of (catalogued 2 1 0 1 1 1)

pub follow-entries : List ℕ
follow-entries = 0 ∷ 0 ∷ 1 ∷ replicate 16381 0

pub as-sheet-taken : as_sheet_check follows_on follow-entries ≡ unrefused
unfolding follows_on follow-entries as_sheet_check own_check call_check page_check address_refused coded_of lines_of table_of hbp_of vsync_of state_refused layout_of rows_apart follows_row any_below entry_of advance_by to_last buffer_of
as-sheet-taken = refl
