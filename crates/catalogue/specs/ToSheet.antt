-- 02, R-5, moving back: a page whose rows follow one another becomes a sheet.
use Rattle.std.specs.Prelude.{ℕ, ◌+◌, ◌-◌, ◌%◌, Bool, not, List, [], ◌∷◌, eqb, length, set, Result, Err}
use Rattle.lists.specs.Choice.{first_of}
use Rattle.lists.specs.Search.{any_below}
use Rattle.refusal.specs.declared.Refusal.{Refusal}
use Rattle.refusal.specs.declared.Refusal.TheVariants.{Kind, Coded, Apart}
use Rattle.refusal.specs.Number.{Checked, unrefused, given, after}
use Rattle.raster.specs.Moves.{advance_by}
use Rattle.board.specs.declared.Page.{Page}
use Rattle.board.specs.declared.Board.{Board}
use Rattle.timing.specs.Fields.{ir, coded_of, table_of, rows_of, hact_of, buffer_of}
use Rattle.fetch.specs.Rows.{entry_of}
use Rattle.board.specs.Parts.{with_irs, with_starts, with_page}
use Rattle.catalogue.specs.ToTable.{own_check}

-- [R-5 back] the way back takes a plain page whose every later entry is where the row before ended; row 0's is anything
-- the entry of the row after row r is where row r ended; of its high byte six bits count
unfoldable pub follows_row : Page → (chars : List ℕ) → (r : ℕ) → Bool
follows_row p chars r = eqb (entry_of p chars (r + 1)) (advance_by (buffer_of p) (hact_of p) (entry_of p chars r))

-- [R-5 back]
-- some later entry is not
unfoldable pub rows_apart : Page → (chars : List ℕ) → Bool
rows_apart p chars = any_below (λ r. not (follows_row p chars r)) (rows_of p - 1)

-- [R-5 sheet]
-- IR2[7] is cleared and screen start 1 is the first entry; memory stays
abbrev pub sheet_at : Page → (first : ℕ) → Page
sheet_at p a =
    with_starts (with_irs p (set p.irs 2 (ir p 2 % 128))) (record { start1 = a; cursor = p.starts.cursor; start2 = p.starts.start2 })

-- [R-5 sheet] it clears IR2[7], sets screen start 1 to the first entry, and leaves memory
unfoldable pub as_sheet_page : Page → (chars : List ℕ) → Page
as_sheet_page p chars = sheet_at p (entry_of p chars 0)

-- [R-5 refusals]
-- 16, 19, 18
abbrev pub as_sheet_order : Page → (chars : List ℕ) → Checked
as_sheet_order p chars = first_of ((not (table_of p), Err Kind) ∷ (coded_of p, Err Coded) ∷ (rows_apart p chars, Err Apart) ∷ []) unrefused

-- [R-5 refusals]
-- after the page's own
unfoldable pub as_sheet_check : Board → (chars : List ℕ) → Checked
as_sheet_check b chars = after (own_check b (length chars)) (as_sheet_order b.page chars)

-- [R-5 sheet]
unfoldable pub as_sheet : Board → (chars : List ℕ) → Result Board Refusal
as_sheet b chars = given (as_sheet_check b chars) (with_page b (as_sheet_page b.page chars))
