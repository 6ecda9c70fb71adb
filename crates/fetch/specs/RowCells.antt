-- All cells that a row fetches, one after the other, as they are given to a caller.
use Rattle.std.specs.Prelude.{◌≡◌, ℕ, ◌||◌, List, ◌++◌, ltb, length, drop, is_ok, Result}
use Rattle.lists.specs.Choice.{pick}
use Rattle.lists.specs.Tab.{tab}
use Rattle.refusal.specs.declared.Refusal.{Refusal}
use Rattle.refusal.specs.Number.{Checked, given, value_or}
use Rattle.board.specs.declared.Page.{Page}
use Rattle.board.specs.declared.Board.{Board}
use Rattle.board.specs.Range.{memory_refused}
use Rattle.fetch.specs.Rows.{fetched_of, fetch_at}
use Rattle.fetch.specs.Run.{row_check}

-- [more cells] a row's cells are the addresses that it fetches, wraps included; elements beyond stay
-- the addresses of the cells that a row fetches
unfoldable pub cells_of : Page → List ℕ → ℕ → List ℕ
cells_of p chars row = tab (fetched_of p chars row) (fetch_at p chars row)

-- [more cells]
-- 3 for a character memory of n cells, or room for fewer than 256, the most that a row can have; then 12, 4, 13, 14, 15, 6, 7
unfoldable pub cells_check : Board → (n row room : ℕ) → Checked
cells_check b n row room = row_check b (memory_refused n || ltb room 256) row

-- how many there are
unfoldable pub cells_given : Board → (chars : List ℕ) → (row room : ℕ) → Result ℕ Refusal
cells_given b chars row room = given (cells_check b (length chars) row room) (fetched_of b.page chars row)

-- the same, and on a refusal none
abbrev pub cells_count : Board → (chars : List ℕ) → (row room : ℕ) → ℕ
cells_count b chars row room = value_or 0 (cells_given b chars row room)

-- [more cells]
-- the buffer afterwards: elements beyond the row's cells stay, and all of it on a refusal
unfoldable pub cells_put : Board → (chars : List ℕ) → ℕ → List ℕ → List ℕ
cells_put b chars row cells =
    pick (is_ok (cells_check b (length chars) row (length cells)))
    (cells_of b.page chars row ++ drop (fetched_of b.page chars row) cells)
    cells

-- [demand untouched] [more cells]
-- the call: the count, and the buffer afterwards
abbrev pub GivesCells : Board → (chars : List ℕ) → (row : ℕ) → (cells : List ℕ) → Result ℕ Refusal → (left : List ℕ) → Type 0
GivesCells b chars row cells r left = (r ≡ cells_given b chars row (length cells)) × (left ≡ cells_put b chars row cells)
