-- 01: the row's first run of cells, from the row start to the row's end, the last buffer address or 16383, whichever is first met.
use Rattle.std.specs.Prelude.{ℕ, min, ◌+◌, ◌-◌, ◌%◌, ◌≤◌, ◌<◌, ◌≡◌, Bool, true, false, ◌&&◌, List, ltb, length, take, drop, Result, IfOk}
use Rattle.std.proofs.Common.{◌∙◌, arith}
use borrow.Author.Tests.{leb-true, ltb-true}
use Rattle.std.proofs.Math.Dec.{leb}
use Rattle.lists.specs.Choice.{both}
use Rattle.refusal.specs.declared.Refusal.{Refusal}
use Rattle.refusal.specs.Number.{Checked, given, value_or, number_of, wrong_size}
use Rattle.raster.specs.declared.Buffer.{Buffer}
use Rattle.raster.specs.Moves.{to_last, advance_by, by_near}
use Rattle.board.specs.declared.Page.{Page}
use Rattle.board.specs.declared.Board.{Board}
use Rattle.board.specs.Range.{memory_refused}
use Rattle.timing.specs.Fields.{rows_of, buffer_of}
use Rattle.timing.specs.Check.{call_check}
use Rattle.fetch.specs.declared.Span.{Span}
use Rattle.fetch.specs.Rows.{row_start, fetched_of}

-- a call that asks for a row: 3 where a lent part has a wrong size, 12, 4, 13, 14, 15, 6, 7
abbrev pub row_check : Board → (size : Bool) → (row : ℕ) → Checked
row_check b size row = call_check b (wrong_size size) (leb (rows_of b.page) row) false

-- [refusal kinds]
-- 3 for a character memory of n cells
unfoldable pub run_check : Board → (n row : ℕ) → Checked
run_check b n row = row_check b (memory_refused n) row

-- [fetch run]
-- so many cells to the row's end, so many to the last buffer address, so many to 16383
unfoldable pub run_count : Page → (cells start : ℕ) → ℕ
run_count p cells start = min cells (min (to_last (buffer_of p) start + 1) (16384 - start))

-- whether n cells from an address on are one run
unfoldable pub one_run : Buffer → (start n : ℕ) → Bool
one_run b start n = (ltb start 16384 && leb n (to_last b start + 1)) && leb n (16384 - start % 16384)

-- then they stand side by side in memory
module _ (b : Buffer) (start n : ℕ) (e : one_run b start n ≡ true) where
  tests : ((start < 16384) × (n ≤ to_last b start + 1)) × (n ≤ 16384 - start % 16384)
  unfolding one_run
  tests =
      let q = both (ltb start 16384 && leb n (to_last b start + 1)) (leb n (16384 - start % 16384)) e in
      let r = both (ltb start 16384) (leb n (to_last b start + 1)) q.0 in
      ((ltb-true _ _ r.0, leb-true _ _ r.1), leb-true _ _ q.1)

  pub run_fits : start + n ≤ 16384
  run_fits = omega (arith, tests.0.0, tests.1)

  pub run_at : (i : ℕ) → i < n → advance_by b i start ≡ start + i
  run_at i l = by_near b i start (omega (arith, tests.0.1)) ∙ omega (arith, run_fits)

abbrev pub span : ℕ → ℕ → Span
span s n = record { start = s; count = n }

unfoldable pub span_of : Board → List ℕ → ℕ → Result Span Refusal
span_of b chars row =
    given (run_check b (length chars) row)
    (span (row_start b.page chars row) (run_count b.page (fetched_of b.page chars row) (row_start b.page chars row)))

-- the same, and on a refusal no cells
abbrev pub span_in : Board → List ℕ → ℕ → Span
span_in b chars row = value_or (span 0 0) (span_of b chars row)

-- [fetch run] the row's first run of cells as a part of character memory; only a refusal shows an empty part
-- the part; a refusal shows an empty part
unfoldable pub run_of : Board → List ℕ → ℕ → List ℕ
run_of b chars row = take (span_in b chars row).count (drop (span_in b chars row).start chars)

-- ---- the calls

-- its span lies in a memory, and in the one that was lent
abbrev pub GivesSpan : Board → (chars : List ℕ) → (row : ℕ) → Result Span Refusal → Type 0
GivesSpan b chars row r = (r ≡ span_of b chars row) × IfOk r (λ s. (s.start + s.count ≤ 16384) × (s.start + s.count ≤ length chars))

-- of a memory that was lent at an offset of a block: the part's cells, its block and offset, and the refusal's number
abbrev pub GivesRun : {Block : Type 0} → Board → (chars : List ℕ) → (row : ℕ) → (lent : Block) → (from : ℕ)
    → (cells : List ℕ) → (block : Block) → (offset number : ℕ) → Type 0
GivesRun b chars row lent from cells block offset number =
    (cells ≡ run_of b chars row)
    × (block ≡ lent)
    × (offset ≡ from + (span_in b chars row).start)
    × (number ≡ number_of (run_check b (length chars) row))
