-- What the proofs and callers use of a row's cells. Assumes nothing.
--     column_by         a cell as the walk along the row comes to it
--     cells-passed     a call that is not refused: the row's run is not refused either, and there is room for any row
--     cells-as-run     with such room the two are refused alike
--     cells-walked     the walk from the row's start gives the row's cells
--     cells-some       where there are cells, nothing was refused
--     cells_at         each element of the buffer that is counted is the row's cell of its number
--     run_at           the first of these are the row's run
--     run-least        which has no more cells than the row
use Rattle.std.specs.Prelude.{ℕ, ◌+◌, ◌≤◌, ◌<◌, ◌≡◌, Bool, ◌||◌, ltb, leb, length, get_or, Result, Ok, Err}
use Rattle.std.proofs.Math.Path.{refl, ap}
use Rattle.std.proofs.Common.{sym, ◌∙◌, arith, ltb-false, le-ltb}
use Rattle.std.proofs.Math.Bool.{false, or-false}
use mathlib.Core.List.{List, ◌++◌}
use Rattle.std.proofs.Math.ListN.{drop, get_or-append}
use Rattle.lists.specs.Choice.{neither}
use Rattle.lists.specs.Tab.{tab, length-tab, get_or-tab}
use Rattle.refusal.specs.declared.Refusal.{Refusal}
use Rattle.refusal.specs.Number.{Checked, unrefused, given, value_or, wrong_size}
use Rattle.refusal.specs.Laws.{size-right}
use Rattle.raster.specs.declared.Buffer.{Buffer}
use Rattle.raster.specs.Moves.{advance_by, by_near}
use Rattle.board.specs.declared.Page.{Page}
use Rattle.board.specs.declared.Board.{Board}
use Rattle.board.specs.Range.{memory_refused}
use Rattle.timing.specs.Fields.{rows_of, buffer_of}
use Rattle.timing.specs.Check.{call_check}
use Rattle.timing.specs.Laws.{call-passed}
use Rattle.fetch.specs.Rows.{row_start, fetched_of, fetch_at}
use Rattle.fetch.specs.Run.{run_check, run_count, span_of, span_in}
use Rattle.fetch.specs.RowCells.{cells_of, cells_check, cells_given, cells_count, cells_put}
use Rattle.fetch.specs.Laws.{fetched-small}

-- the cell c moves from the row's start
unfoldable pub column_by : Buffer → (start c : ℕ) → ℕ
column_by b start c = advance_by b c start

pub cells-passed : (b : Board) (n row room : ℕ) → cells_check b n row room ≡ unrefused → (run_check b n row ≡ unrefused) × (256 ≤ room)
unfolding cells_check run_check
cells-passed b n row room e =
    let asked = leb (rows_of b.page) row in
    let sized = size-right _ (call-passed b (wrong_size (memory_refused n || ltb room 256)) asked false e).lent-fine in
    let s = neither (memory_refused n) (ltb room 256) sized in
    (ap (λ (t : Bool). call_check b (wrong_size t) asked false) (s.0 ∙ sym sized) ∙ e, ltb-false _ _ s.1)

pub cells-as-run : (b : Board) (n row room : ℕ) → 256 ≤ room → cells_check b n row room ≡ run_check b n row
unfolding cells_check run_check
cells-as-run b n row room h = rw (le-ltb room 256 h, or-false (memory_refused n))

pub cells-walked : (p : Page) (chars : List ℕ) (row : ℕ) → tab (fetched_of p chars row) (column_by (buffer_of p) (row_start p chars row)) ≡ cells_of p chars row
unfolding cells_of column_by fetch_at
cells-walked p chars row = refl

-- ---- what the call leaves

pub cells-given : (b : Board) (chars : List ℕ) (row : ℕ) (cells₀ : List ℕ) {r : Result ℕ Refusal} {cells : List ℕ} → cells_check b (length chars) row (length cells₀) ≡ unrefused
    → r ≡ Ok (fetched_of b.page chars row)
    → cells ≡ tab (fetched_of b.page chars row) (column_by (buffer_of b.page) (row_start b.page chars row)) ++ drop (fetched_of b.page chars row) cells₀
    → (r ≡ cells_given b chars row (length cells₀)) × (cells ≡ cells_put b chars row cells₀)
unfolding cells_given cells_put
cells-given b chars row cells₀ t e q = (rw t e, rw t (q ∙ ap (λ (l : List ℕ). l ++ drop (fetched_of b.page chars row) cells₀) (cells-walked b.page chars row)))

-- ---- what a caller knows of the count and of each cell

module _ (b : Board) (chars : List ℕ) (row room : ℕ) where
  pub count_small : cells_count b chars row room ≤ 256
  unfolding cells_given
  count_small = go (cells_check b (length chars) row room)
    where
      go : (t : Checked) → value_or 0 (given t (fetched_of b.page chars row)) ≤ 256
      go (Ok tt) = (fetched-small b.page chars row).1
      go (Err why) = omega arith

  pub cells-some : (c : ℕ) → c < cells_count b chars row room → cells_check b (length chars) row room ≡ unrefused
  unfolding cells_given
  cells-some c h = go (cells_check b (length chars) row room) refl
    where
      go : (t : Checked) → cells_check b (length chars) row room ≡ t → cells_check b (length chars) row room ≡ unrefused
      go (Ok tt) t = t
      go (Err why) t = let none : c < 0 = rw t at h in absurd (omega (arith, none))

pub cells_at : (b : Board) (chars : List ℕ) (row : ℕ) (cells₀ : List ℕ) (i : ℕ)
    → i < cells_count b chars row (length cells₀) → get_or (cells_put b chars row cells₀) i 0 ≡ fetch_at b.page chars row i
unfolding cells_given cells_put cells_of
cells_at b chars row cells₀ i h =
    let n = fetched_of b.page chars row in
    let f = fetch_at b.page chars row in
    let ok = cells-some b chars row (length cells₀) i h in
    let in_row : i < n = rw ok at h in
    rw ok (get_or-append (tab n f) (drop n cells₀) 0 i (rw (length-tab n f) in_row) ∙ get_or-tab n f i in_row)

-- ---- the run

side_by_side : (p : Page) (n start i : ℕ) → i < run_count p n start → (i < n) × (column_by (buffer_of p) start i ≡ start + i)
unfolding run_count column_by
side_by_side p n start i h = (omega arith, by_near (buffer_of p) i start (omega arith) ∙ omega arith)

pub run_at : (b : Board) (chars : List ℕ) (row i : ℕ) → i < (span_in b chars row).count
    → (i < fetched_of b.page chars row) × (fetch_at b.page chars row i ≡ (span_in b chars row).start + i)
unfolding span_of fetch_at column_by
run_at b chars row i h = go (run_check b (length chars) row) refl
  where
    go : (t : Checked) → run_check b (length chars) row ≡ t
        → (i < fetched_of b.page chars row) × (fetch_at b.page chars row i ≡ (span_in b chars row).start + i)
    go (Ok tt) t = rw t (side_by_side b.page (fetched_of b.page chars row) (row_start b.page chars row) i (rw t at h))
    go (Err why) t = let none : i < 0 = rw t at h in absurd (omega (arith, none))

pub run-least : (b : Board) (chars : List ℕ) (row room : ℕ) → 256 ≤ room → (span_in b chars row).count ≤ cells_count b chars row room
unfolding span_of run_count cells_given
run-least b chars row room h = rw (cells-as-run b (length chars) row room h) (go (run_check b (length chars) row) refl)
  where
    go : (t : Checked) → run_check b (length chars) row ≡ t
        → (span_in b chars row).count ≤ value_or 0 (given (run_check b (length chars) row) (fetched_of b.page chars row))
    go (Ok tt) t = rw t (omega arith)
    go (Err why) t = rw t (omega arith)
