-- 02, R-5, moving there: a sheet gets a row table, in the lowest stretch of consecutive cells that no row fetches.
use Rattle.std.specs.Prelude.{◌≡◌, ℕ, ◌+◌, ◌-◌, ◌*◌, ◌/◌, ◌%◌, Bool, false, not, List, [], ◌∷◌, ◌++◌, eqb, length, set, take, drop, is_ok, Result, Err}
use Rattle.lists.specs.Choice.{pick, first_of}
use Rattle.lists.specs.Tab.{tab}
use Rattle.lists.specs.Search.{any_below, first_below}
use Rattle.refusal.specs.declared.Refusal.{Refusal}
use Rattle.refusal.specs.declared.Refusal.TheVariants.{Kind, Coded, Stretch}
use Rattle.refusal.specs.Number.{Checked, unrefused, given, after, wrong_size}
use Rattle.board.specs.declared.Page.{Page}
use Rattle.board.specs.declared.Board.{Board}
use Rattle.board.specs.Parts.{with_irs, with_starts, with_page}
use Rattle.board.specs.Range.{memory_refused}
use Rattle.timing.specs.Fields.{ir, coded_of, table_of, rows_of}
use Rattle.timing.specs.Check.{call_check}
use Rattle.fetch.specs.Rows.{row_start, fetched_of, fetch_at}

-- [R-5 lowest] into the lowest stretch of consecutive cells, not passing 16383, that no row fetches
-- whether some row fetches the cell at an address
unfoldable pub fetches_cell : Page → (chars : List ℕ) → (x : ℕ) → Bool
fetches_cell p chars x = any_below (λ r. any_below (λ i. eqb (fetch_at p chars r i) x) (fetched_of p chars r)) (rows_of p)

-- [R-5 table] a table of two bytes a row; the move sets screen start 2 and IR2[7] and nothing else
-- a table has two bytes a row
abbrev pub table_size : Page → ℕ
table_size p = 2 * rows_of p

-- from 0 on, the places from which a table does not pass 16383
abbrev pub table_places : Page → ℕ
table_places p = 16385 - table_size p

-- [R-5 lowest]
-- no row fetches one of the cells that it would have there
unfoldable pub unfetched_at : Page → (chars : List ℕ) → (place : ℕ) → Bool
unfetched_at p chars a = not (any_below (λ i. fetches_cell p chars (a + i)) (table_size p))

-- [R-5 lowest]
-- the lowest of them, or the count of places where there is none
unfoldable pub table_place : Page → (chars : List ℕ) → ℕ
table_place p chars = first_below (unfetched_at p chars) (table_places p)

-- [R-5 table]
-- where each row starts: low byte, then high byte, of which the upper two bits are 0
unfoldable pub table_byte : Page → (chars : List ℕ) → (i : ℕ) → ℕ
table_byte p chars i = pick (eqb (i % 2) 0) (row_start p chars (i / 2) % 256) (row_start p chars (i / 2) / 256)

-- [R-5 table]
-- the page with it: screen start 2 is its place and IR2[7] is set, nothing else changes
unfoldable pub as_table_page : Page → (place : ℕ) → Page
as_table_page p a =
    with_starts (with_irs p (set p.irs 2 (ir p 2 % 128 + 128))) (record { start1 = p.starts.start1; cursor = p.starts.cursor; start2 = a })

-- [R-5 table]
-- character memory with it
unfoldable pub as_table_chars : Page → (chars : List ℕ) → (place : ℕ) → List ℕ
as_table_chars p chars a = take a chars ++ (tab (table_size p) (table_byte p chars) ++ drop (a + table_size p) chars)

-- [R-5 refusals]
-- the page's own: 3 for character memory, 12, 4, 13, 14, 15, 6, 7
unfoldable pub own_check : Board → (n : ℕ) → Checked
own_check b n = call_check b (wrong_size (memory_refused n)) false false

-- [R-5 refusals] after the page's own 16, 19, 17 or 18, each exactly when its fact holds and none before it does
-- then 16, 19, 17
abbrev pub as_table_order : Page → (place : ℕ) → Checked
as_table_order p a = first_of ((table_of p, Err Kind) ∷ (coded_of p, Err Coded) ∷ (eqb a (table_places p), Err Stretch) ∷ []) unrefused

-- [R-5 refusals]
unfoldable pub as_table_check : Board → (chars : List ℕ) → Checked
as_table_check b chars = after (own_check b (length chars)) (as_table_order b.page (table_place b.page chars))

-- [R-5 same] typed sheets become row table pages with the same picture in every frame
-- pointer, place and power state stay; a refusal leaves memory
unfoldable pub as_table : Board → (chars : List ℕ) → Result Board Refusal
as_table b chars = given (as_table_check b chars) (with_page b (as_table_page b.page (table_place b.page chars)))

-- [R-5 same]
unfoldable pub as_table_left : Board → (chars : List ℕ) → List ℕ
as_table_left b chars = pick (is_ok (as_table_check b chars)) (as_table_chars b.page chars (table_place b.page chars)) chars

-- [demand untouched]
-- the call: its answer, and character memory afterwards
abbrev pub MovesToTable : Board → (chars : List ℕ) → Result Board Refusal → (left : List ℕ) → Type 0
MovesToTable b chars r left = (r ≡ as_table b chars) × (left ≡ as_table_left b chars)
