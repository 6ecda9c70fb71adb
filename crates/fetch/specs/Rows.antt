-- 01, "Which cell is fetched": the row table, where a row starts, and the cell that a column shows (02, R-4: in double width).
use Rattle.std.specs.Prelude.{ℕ, min, ◌+◌, ◌*◌, ◌/◌, ◌%◌, Bool, List, ltb, get_or}
use Rattle.lists.specs.Choice.{pick}
use Rattle.raster.specs.Moves.{advance_by}
use Rattle.raster.specs.Wide.{code_of, is_wide}
use Rattle.board.specs.declared.Page.{Page}
use Rattle.timing.specs.Fields.{coded_of, table_of, hact_of, buffer_of}

-- the character byte at an address, modulo 16,384
abbrev pub byte_at : List ℕ → ℕ → ℕ
byte_at chars address = get_or chars (address % 16384) 0

-- [fetch entry] row r's entry is two bytes at screen start 2 + 2r, modulo 16,384: low, then high, of which six bits count
-- the table entry of row r is the two bytes at screen start 2 + 2r: low byte, then high byte, of which six bits count
unfoldable pub entry_of : Page → List ℕ → ℕ → ℕ
entry_of p chars r = byte_at chars (p.starts.start2 + 2 * r) % 256 + 256 * (byte_at chars (p.starts.start2 + 2 * r + 1) % 64)

-- [R-4 code] while IR0[7] is set, an entry's two upper bits are the row's code, kept with its row start
-- the row's code, the two upper bits of its entry's high byte while IR0[7] is set (02, R-4)
unfoldable pub code_at : Page → List ℕ → ℕ → ℕ
code_at p chars r = pick (coded_of p) (byte_at chars (p.starts.start2 + 2 * r + 1) / 64 % 4) 0

-- whether row r is of double width
abbrev pub wide_at : Page → List ℕ → (row : ℕ) → Bool
wide_at p chars r = is_wide (code_of (code_at p chars r))

-- [fetch start] first line of a row: the table entry if the table is on; else screen start 1 for row 0; else it carries on
-- where row r starts: at its table entry if the table is on, else r x HACT moves after screen start 1
unfoldable pub row_start : Page → List ℕ → (row : ℕ) → ℕ
row_start p chars r = pick (table_of p) (entry_of p chars r) (advance_by (buffer_of p) (r * hact_of p) p.starts.start1)

-- the cell that row r fetches after i others: i moves after its start
unfoldable pub fetch_at : Page → List ℕ → (row i : ℕ) → ℕ
fetch_at p chars r i = advance_by (buffer_of p) i (row_start p chars r)

-- [R-4 run]
-- how many cells row r fetches: one a column, or in double width one for every other column, from the first on
unfoldable pub fetched_of : Page → List ℕ → (row : ℕ) → ℕ
fetched_of p chars r = pick (wide_at p chars r) ((hact_of p + 1) / 2) (hact_of p)

-- how many it has fetched before column c
unfoldable pub fetched_before : Page → List ℕ → (row column : ℕ) → ℕ
fetched_before p chars r c = pick (wide_at p chars r) ((min c (hact_of p) + 1) / 2) (min c (hact_of p))

-- how many it has moved on from by column c: past its last column, all of them
unfoldable pub moved_of : Page → List ℕ → (row column : ℕ) → ℕ
moved_of p chars r c = pick (ltb c (hact_of p)) (pick (wide_at p chars r) (c / 2) c) (fetched_of p chars r)

-- [R-4 width] a double width row shows fetched cell floor(c/2) in column c, left half in even columns, each dot twice
-- the cell that column c of row r shows
unfoldable pub cell_at : Page → List ℕ → (row column : ℕ) → ℕ
cell_at p chars r c = fetch_at p chars r (moved_of p chars r c)
