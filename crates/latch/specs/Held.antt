-- 000 (02, R-1): the attributes that are valid at a column of a row, and before its cell.
use Rattle.std.specs.Prelude.{ℕ, min, ◌+◌, ◌*◌, ◌/◌, ◌%◌, List, get_or}
use Rattle.lists.specs.Choice.{pick}
use Rattle.raster.specs.Wide.{code_of, fetches_at}
use Rattle.raster.specs.Latch.{latched, sets_of, last_set}
use Rattle.board.specs.declared.Page.{Page}
use Rattle.board.specs.Modes.{field_mode}
use Rattle.timing.specs.Fields.{hact_of, counts_of}
use Rattle.fetch.specs.Rows.{code_at, cell_at}

-- [R-4 latch] in field mode a cell latches on its even column, and the odd one shows what is then latched (our ruling)
-- what column c of row r sets: the attribute byte of the cell that it fetches, if it fetches one
abbrev pub set_in : Page → (chars attrs : List ℕ) → (row column : ℕ) → ℕ
set_in p chars attrs r c = pick (fetches_at (counts_of p) (code_of (code_at p chars r)) c) (sets_of (field_mode p) attrs (cell_at p chars r c)) 0

-- the column after k others, from row 0, column 0 of the frame on
abbrev pub byte_of : Page → (chars attrs : List ℕ) → (k : ℕ) → ℕ
byte_of p chars attrs k = set_in p chars attrs (k / hact_of p) (k % hact_of p)

-- [R-1 latch] attributes latched at a cell with AFLG hold until the next such cell, across rows
-- of the last cell with AFLG that is fetched in the frame before column c of row r, or 0 for none
unfoldable pub held_at : Page → (chars attrs : List ℕ) → (row column : ℕ) → ℕ
held_at p chars attrs r c = last_set (byte_of p chars attrs) 0 (r * hact_of p + min c (hact_of p))

-- the attributes valid at column c of row r: in field mode those of the last cell with AFLG that is fetched in the frame up to there; in character
-- mode those of the column's own cell, if it has AFLG
unfoldable pub attributes_at : Page → (chars attrs : List ℕ) → (row column : ℕ) → ℕ
attributes_at p chars attrs r c = pick (field_mode p) (held_at p chars attrs r (c + 1)) (latched (get_or attrs (cell_at p chars r c) 0) 0)
