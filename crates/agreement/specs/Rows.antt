-- The sentence for which the project exists. With the row table on, on every line of row r the addresses that `step` puts out, and the cells whose dots
-- `draw_line` writes, are those that follow from the row's own table entry, whatever the rest of memory holds; with it off, those that follow from screen
-- start 1. Whether each has one column or two is the row's code, in the same entry. They are the cells that `row_cells` gives, and the run that `row_run` gives is the first of them. In character mode the row's dots depend on these
-- cells alone; in field mode also on what the rows above it latched. Assumes nothing.
use Rattle.std.specs.Prelude.{ℕ, ◌+◌, ◌*◌, ◌/◌, ◌≤◌, ◌<◌, ◌≡◌, refl, Bool, true, false, length, get_or, Ok}
use Rattle.std.proofs.Common.{sym, ◌∙◌, arith, eq-eqb}
use Rattle.std.proofs.Math.Path.{ap}
use mathlib.Core.List.{List, ◌++◌}
use Rattle.std.proofs.lemmas.Bool.{lt-leb}
use Rattle.std.proofs.Math.Arith.{digits_div, digits_lt}
use Rattle.std.proofs.Math.ListN.{drop}
use Rattle.lists.specs.Choice.{pick}
use Rattle.lists.specs.Join.{joined, same-joined}
use Rattle.lists.specs.Tab.{tab, same-tab}
use Rattle.refusal.specs.Number.{unrefused, wrong_size}
use Rattle.raster.specs.Moves.{advance_by}
use Rattle.raster.specs.Wide.{code_of, is_wide}
use Rattle.board.specs.declared.Board.{Board}
use Rattle.board.specs.Modes.{field_mode}
use Rattle.board.specs.Range.{memory_refused}
use Rattle.timing.specs.Fields.{hact_of, lines_of, rows_of, visible_of, buffer_of}
use Rattle.timing.specs.Laws.{range-ok, call_ok}
use Rattle.fetch.specs.Rows.{code_at, cell_at, fetched_of, fetch_at}
use Rattle.fetch.specs.Run.{run_check, span_in}
use Rattle.fetch.specs.RowCells.{cells_of, cells_check, cells_given, cells_put}
use Rattle.fetch.specs.Laws.{cell-shown}
use Rattle.fetch.specs.RowLaws.{cells-as-run, cells_at, run_at}
use Rattle.raster.specs.Latch.{latched}
use Rattle.latch.specs.Held.{attributes_at}
use Rattle.shape.specs.Font.{Font}
use Rattle.line.specs.Line.{line_length, drawn_of}
use Rattle.step.specs.Step.{step_check}
use Rattle.step.specs.After.{fits, page-ok}
use Rattle.agreement.specs.Lines.{address_at, shown_at, DrawnFrom, address_is, drawn-from}

-- line l of row r
abbrev pub line_of : Board → (r l : ℕ) → ℕ
line_of b r l = r * lines_of b.page + l

-- what follows from an address: the cell i moves on
abbrev pub follows : Board → (from i : ℕ) → ℕ
follows b from i = advance_by (buffer_of b.page) i from

-- how many of its cells row r fetches before the one that column c shows: each has a column, or where the row is of double width two
abbrev pub nth_cell : Board → (chars : List ℕ) → (r c : ℕ) → ℕ
nth_cell b chars r c = pick (is_wide (code_of (code_at b.page chars r))) (c / 2) c

-- and the column that fetches a cell
abbrev pub nth_column : Board → (chars : List ℕ) → (r i : ℕ) → ℕ
nth_column b chars r i = pick (is_wide (code_of (code_at b.page chars r))) (2 * i) i

column-in : (b : Board) (chars : List ℕ) (r i : ℕ) → i < fetched_of b.page chars r → (nth_column b chars r i < hact_of b.page) × (nth_cell b chars r (nth_column b chars r i) ≡ i)
unfolding fetched_of
column-in b chars r i = go (is_wide (code_of (code_at b.page chars r)))
  where
    go : (t : Bool) → i < pick t ((hact_of b.page + 1) / 2) (hact_of b.page) → (pick t (2 * i) i < hact_of b.page) × (pick t (pick t (2 * i) i / 2) (pick t (2 * i) i) ≡ i)
    go true h = (omega (arith, h), omega arith)
    go false h = (h, refl)

pub cell_in : (b : Board) (chars : List ℕ) (r c : ℕ) → c < hact_of b.page → nth_cell b chars r c < fetched_of b.page chars r
unfolding fetched_of
cell_in b chars r c h = go (is_wide (code_of (code_at b.page chars r)))
  where
    go : (t : Bool) → pick t (c / 2) c < pick t ((hact_of b.page + 1) / 2) (hact_of b.page)
    go true = omega (arith, h)
    go false = h

module _ (b : Board) (chars attrs : List ℕ) (f : Font) (ok : step_check b chars attrs f ≡ unrefused) (r l : ℕ)
    (hr : r < rows_of b.page) (hl : l < lines_of b.page) where
  pub row_is : line_of b r l / lines_of b.page ≡ r
  row_is = digits_div r hl

  pub line-visible : line_of b r l < (visible_of b.page).0
  line-visible = digits_lt hr hl

  -- what `step` puts out on line l of row r
  pub fetched : (k c : ℕ) → c < hact_of b.page → address_at b chars attrs f k (line_of b r l) c ≡ cell_at b.page chars r c
  fetched k c h = address_is b chars attrs f ok k (line_of b r l) c line-visible h ∙ rw row_is

  -- what `step` puts out and what `draw_line` writes on line l of row r, where the row's cells follow from an address
  pub record Shown (start : ℕ) : Type 0 where
    pub stepped : (k c : ℕ) → c < hact_of b.page → address_at b chars attrs f k (line_of b r l) c ≡ follows b start (nth_cell b chars r c)
    pub drawn : DrawnFrom b chars attrs f (line_of b r l) (λ c. follows b start (nth_cell b chars r c))

  -- in character mode a cell's own byte gives its attributes, and nothing that stands before it plays a part in its dots
  pub plain_row : field_mode b.page ≡ false → (start : ℕ) → Shown start → (field : ℕ) (out : List ℕ) → line_length b ≤ length out
      → drawn_of b chars attrs f (line_of b r l) field out
      ≡ joined 0 (hact_of b.page) (λ c. shown_at b chars attrs f (line_of b r l) field c (latched (get_or attrs (cell_at b.page chars r c) 0) 0) (follows b start (nth_cell b chars r c))) ++ drop (line_length b) out
  unfolding attributes_at
  plain_row m start s field out room =
      s.drawn field out room
      ∙ ap (λ (d : List ℕ). d ++ drop (line_length b) out)
      (same-joined 0 (hact_of b.page) _ _ (λ c _ h.
      rw (row_is, m)))

  -- ---- the row's run

  pub run-answers : run_check b (length chars) r ≡ unrefused
  unfolding run_check
  run-answers =
      rw (lt-leb (rows_of b.page) r hr)
      (call_ok b (wrong_size (memory_refused (length chars))) (rw (eq-eqb _ _ (fits b chars attrs f ok).chars-all)) (page-ok b chars attrs f ok)
      (range-ok b (fits b chars attrs f ok).state))

  -- what the row fetches after i others, on the column that fetches it
  fetched-by : (k i : ℕ) → i < fetched_of b.page chars r → address_at b chars attrs f k (line_of b r l) (nth_column b chars r i) ≡ fetch_at b.page chars r i
  fetched-by k i h =
      let q = column-in b chars r i h in
      fetched k (nth_column b chars r i) q.0 ∙ sym (cell-shown b.page chars r (nth_column b chars r i) q.0) ∙ ap (fetch_at b.page chars r) q.1

  -- [fetch run]
  -- the run that `row_run` gives is what the row fetches first, on every line of the row, cell after cell
  pub run-shown : (k i : ℕ) → i < (span_in b chars r).count → address_at b chars attrs f k (line_of b r l) (nth_column b chars r i) ≡ (span_in b chars r).start + i
  run-shown k i h = let s = run_at b chars r i h in fetched-by k i s.0 ∙ s.1

  -- ---- the row's cells

  -- a buffer with room for any row: `row_cells` leaves there, cell by cell, the addresses that `step` puts out on the columns that fetch them, on the line's
  -- active clocks in every frame, and elements beyond stay; at these addresses are the cells whose dots `draw_line` writes; the first of them are the run that
  -- `row_run` gives
  pub record CellsShown (cells : List ℕ) : Type 0 where
    pub answered : cells_given b chars r (length cells) ≡ Ok (fetched_of b.page chars r)
    pub stepped : (k : ℕ) → cells_put b chars r cells
        ≡ tab (fetched_of b.page chars r) (λ i. address_at b chars attrs f k (line_of b r l) (nth_column b chars r i)) ++ drop (fetched_of b.page chars r) cells
    pub drawn : DrawnFrom b chars attrs f (line_of b r l) (λ c. get_or (cells_put b chars r cells) (nth_cell b chars r c) 0)
    pub begun : (i : ℕ) → i < (span_in b chars r).count → get_or (cells_put b chars r cells) i 0 ≡ (span_in b chars r).start + i

  module _ (cells : List ℕ) (room : 256 ≤ length cells) where
    cells-answer : cells_check b (length chars) r (length cells) ≡ unrefused
    cells-answer = cells-as-run b (length chars) r (length cells) room ∙ run-answers

    given : cells_given b chars r (length cells) ≡ Ok (fetched_of b.page chars r)
    unfolding cells_given
    given = rw cells-answer

    put : cells_put b chars r cells ≡ tab (fetched_of b.page chars r) (fetch_at b.page chars r) ++ drop (fetched_of b.page chars r) cells
    unfolding cells_put cells_of
    put = rw cells-answer

    pub at-cell : (i : ℕ) → i < fetched_of b.page chars r → get_or (cells_put b chars r cells) i 0 ≡ fetch_at b.page chars r i
    at-cell i h = cells_at b chars r cells i (rw given h)

    pub at-column : (c : ℕ) → c < hact_of b.page → get_or (cells_put b chars r cells) (nth_cell b chars r c) 0 ≡ cell_at b.page chars r c
    at-column c h = at-cell (nth_cell b chars r c) (cell_in b chars r c h) ∙ cell-shown b.page chars r c h

    -- [more cells]
    -- so `row_cells` gives what the steps fetch and the lines draw
    pub cells-shown : CellsShown cells
    cells-shown = record {
      answered = given;
      stepped = λ k. put ∙ ap (λ (l : List ℕ). l ++ drop (fetched_of b.page chars r) cells) (same-tab (fetched_of b.page chars r) _ _ (λ i h. sym (fetched-by k i h)));
      drawn = drawn-from b chars attrs f ok (line_of b r l) line-visible _ (λ c h. rw row_is (at-column c h));
      begun = λ i h. let s = run_at b chars r i h in at-cell i s.0 ∙ s.1;
    }
