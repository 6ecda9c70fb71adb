-- Rests on run-passed: row and memory are as the callees ask; span_small gives the two bounds.
use Rattle.std.specs.Prelude.{Ok}
use Rattle.std.proofs.Common.{◌≡◌, ◌≤◌, ◌+◌, ℕ, List, length, sym, arith}
use Rattle.refusal.specs.Number.{unrefused}
use Rattle.raster.specs.declared.Cell.{Cell}
use Rattle.raster.specs.Moves.{cell}
use Rattle.board.specs.declared.Board.{Board}
use Rattle.fetch.specs.declared.Span.{Span}
use Rattle.fetch.specs.Rows.{row_start, fetched_of}
use Rattle.fetch.specs.Run.{run_check, run_count, span, span_of}
use Rattle.fetch.specs.Laws.{run-passed, row-start-lt, span_small}
use Rattle.fetch.proofs.span_of.Goals as goal

shown : (b : Board) (chars : List ℕ) (row : ℕ) (m : ℕ) (a : Cell) (n : ℕ) → run_check b (length chars) row ≡ unrefused
    → m ≡ fetched_of b.page chars row → a ≡ cell (row_start b.page chars row) → n ≡ run_count b.page m a.address → Ok (span a.address n) ≡ span_of b chars row
unfolding span_of
shown b chars row m a n p f q r = rw (p, r, f, q)

fits : (b : Board) (chars : List ℕ) (row : ℕ) (s : Span) → Ok s ≡ span_of b chars row → (s.start + s.count ≤ 16384) × (s.start + s.count ≤ length chars)
fits b chars row s e = rw (← e) at (span_small b chars row)

pub fetched_of-cells-requires : goal.fetched_of-cells-requires
fetched_of-cells-requires c =
    let k = run-passed _ _ _ (sym c.in_ok-run_check.ensures) in
    (k.whole, omega (arith, k.row_lt))

pub row_start-start-requires : goal.row_start-start-requires
row_start-start-requires c =
    let k = run-passed _ _ _ (sym c.in_ok-run_check.ensures) in
    (k.whole, omega (arith, k.row_lt))

pub run_count-requires : goal.run_count-requires
run_count-requires c =
    let k = run-passed _ _ _ (sym c.in_ok-run_check.ensures) in
    rw c.row_start-start.ensures (row-start-lt _ _ k.page _)

pub returns : goal.returns
returns c =
    let same = shown _ _ _ _ _ _ (sym c.in_ok-run_check.ensures) c.fetched_of-cells.ensures c.row_start-start.ensures c.run_count.ensures in
    (same, fits _ _ _ _ same)
