-- What a row shows, proved: its cells follow from its own table entry, or from screen start 1 (specs Rows). Assumes nothing.
use Rattle.std.specs.Prelude.{ℕ, ◌*◌, ◌<◌, ◌≡◌, true, false}
use Rattle.std.proofs.Common.{sym, ◌∙◌}
use mathlib.Core.List.{List}
use Rattle.refusal.specs.Number.{unrefused}
use Rattle.board.specs.declared.Board.{Board}
use Rattle.timing.specs.Fields.{hact_of, lines_of, rows_of, table_of}
use Rattle.fetch.specs.Rows.{entry_of, row_start, cell_at, fetch_at}
use Rattle.fetch.specs.Laws.{cell-shown, start-table, start-sheet}
use Rattle.shape.specs.Font.{Font}
use Rattle.step.specs.Step.{step_check}
use Rattle.agreement.specs.Lines.{drawn-from}
use Rattle.agreement.specs.Rows.{line_of, follows, nth_cell, Shown, row_is, line-visible, fetched}

module _ (b : Board) (chars attrs : List ℕ) (f : Font) (ok : step_check b chars attrs f ≡ unrefused) (r l : ℕ)
    (hr : r < rows_of b.page) (hl : l < lines_of b.page) where
  -- what column c shows, from the row's start
  from_start : (start : ℕ) → start ≡ row_start b.page chars r → (c : ℕ) → c < hact_of b.page → follows b start (nth_cell b chars r c) ≡ cell_at b.page chars r c
  unfolding fetch_at
  from_start start begins c h = rw begins (cell-shown b.page chars r c h)

  shown : (start : ℕ) → start ≡ row_start b.page chars r → Shown b chars attrs f ok r l hr hl start
  shown start begins = record {
    stepped = λ k c h. fetched b chars attrs f ok r l hr hl k c h ∙ sym (from_start start begins c h);
    drawn = drawn-from b chars attrs f ok (line_of b r l) (line-visible b chars attrs f ok r l hr hl) _ (λ c h. rw (row_is b chars attrs f ok r l hr hl) (from_start start begins c h));
  }

  -- [fetch start]
  -- with the table on: they follow from the row's entry
  pub row-from-table : table_of b.page ≡ true → Shown b chars attrs f ok r l hr hl (entry_of b.page chars r)
  row-from-table t = shown (entry_of b.page chars r) (start-table b.page chars r t)

  -- [fetch start]
  -- with it off: from the cell r x HACT moves after screen start 1
  pub row-from-start : table_of b.page ≡ false → Shown b chars attrs f ok r l hr hl (follows b b.page.starts.start1 (r * hact_of b.page))
  row-from-start t = shown (follows b b.page.starts.start1 (r * hact_of b.page)) (start-sheet b.page chars r t)
