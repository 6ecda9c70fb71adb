-- The same of the calls for C: every frame, no fetch outside an ordered buffer, and the cells of a row (specs FromC). Assumes nothing.
use Prim.Native.Nat.{ℕ, ◌*◌, ◌≤◌, ◌<◌}
use Rattle.std.specs.Prelude.{◌≡◌}
use Rattle.std.proofs.Math.Path.{ap}
use Rattle.std.proofs.Common.{sym, ◌∙◌}
use Rattle.std.proofs.Math.Bool.{true, false}
use mathlib.Core.List.{List, ◌++◌}
use Rattle.std.proofs.Math.Arith.{digits_lt}
use Rattle.std.proofs.Math.ListN.{drop}
use Rattle.lists.specs.Join.{same-joined}
use Rattle.raster.specs.Moves.{Inside}
use Rattle.board.specs.declared.Board.{Board}
use Rattle.timing.specs.Fields.{hact_of, lines_of, rows_of, table_of, buffer_of}
use Rattle.fetch.specs.Rows.{entry_of}
use Rattle.latch.specs.Held.{attributes_at}
use Rattle.shape.specs.Font.{Font, font_of}
use Rattle.line.specs.Line.{row_for}
use Rattle.step.specs.Step.{step_of}
use Rattle.numbers.specs.Numbers.{numbers_board}
use Rattle.feldrime.specs.Pages.{size_for, board_for}
use Rattle.feldrime.specs.Step.{numbered}
use Rattle.agreement.specs.Lines.{clock_of, shown_at}
use Rattle.agreement.specs.Frames.{frame_clocks}
use Rattle.agreement.specs.Rows.{line_of, follows, Shown}
use Rattle.agreement.specs.FromC.{step_c, steps-from-c, step_ok, size-from-c, line-in, draw-answers-from-c, drawn-from-c, FramedC, StaysC, ShownC}
use Rattle.agreement.proofs.Frames.{every-frame, frame-at-most, stays-inside}
use Rattle.agreement.proofs.Rows.{row-from-table, row-from-start}

module _ (numbers chars attrs words flags unshifted shifted groups : List ℕ) where
  abbrev b : Board
  b = numbers_board numbers

  abbrev f : Font
  f = font_of words flags unshifted shifted groups

  module _ (board-made : (board_for numbers).refusal ≡ 0) (first_step : (step_c numbers chars attrs words flags unshifted shifted groups 0).refusal ≡ 0) where
    -- [demand frame]
    -- so every frame takes exactly its clocks
    pub every-frame-from-c : (n : ℕ) → FramedC numbers chars attrs words flags unshifted shifted groups board-made first_step n
    every-frame-from-c n =
        let framed = every-frame b chars attrs f (step_ok numbers chars attrs words flags unshifted shifted groups board-made first_step) n in
        record {
          ends = λ e. rw (steps-from-c numbers chars attrs words flags unshifted shifted groups board-made first_step n) (framed.ends e);
          nowhere-else = λ p q. framed.nowhere-else (rw (steps-from-c numbers chars attrs words flags unshifted shifted groups board-made first_step n) at p) (rw (steps-from-c numbers chars attrs words flags unshifted shifted groups board-made first_step n) at q);
          counted = rw (steps-from-c numbers chars attrs words flags unshifted shifted groups board-made first_step n) framed.counted;
        }

    -- [demand frame]
    -- at most 826,752
    pub frame-at-most-from-c : frame_clocks b ≤ 826752
    frame-at-most-from-c = frame-at-most b chars attrs f (step_ok numbers chars attrs words flags unshifted shifted groups board-made first_step)

    -- [demand inside]
    -- so no fetch leaves the buffer
    pub stays-inside-from-c : table_of b.page ≡ false → Inside (buffer_of b.page) b.page.starts.start1
        → (k l : ℕ) → l < (size_for numbers).lines → StaysC numbers chars attrs words flags unshifted shifted groups board-made first_step k l
    unfolding numbered
    stays-inside-from-c t i k l hl =
        let s = stays-inside b chars attrs f (step_ok numbers chars attrs words flags unshifted shifted groups board-made first_step) t i k l (line-in numbers chars attrs words flags unshifted shifted groups board-made first_step l hl) in
        record {
          stepped = λ c hc. rw (steps-from-c numbers chars attrs words flags unshifted shifted groups board-made first_step (clock_of b k l c)) (s.stepped c hc);
          drawn = λ field out room.
              drawn-from-c numbers chars attrs words flags unshifted shifted groups board-made first_step l _ s.drawn field out room
              ∙ ap (λ (d : List ℕ). d ++ drop (size_for numbers).dots out)
              (same-joined 0 (hact_of b.page) _ _ (λ c _ h.
              ap (λ (x : Board). shown_at b chars attrs f l field c (attributes_at b.page chars attrs (row_for b l) c) (step_of x chars attrs f).address) (sym (steps-from-c numbers chars attrs words flags unshifted shifted groups board-made first_step (clock_of b k l c)))));
        }

    module _ (r l : ℕ) (hr : r < rows_of b.page) (hl : l < lines_of b.page) where
      shown-from-c : (start : ℕ) → Shown b chars attrs f (step_ok numbers chars attrs words flags unshifted shifted groups board-made first_step) r l hr hl start → ShownC numbers chars attrs words flags unshifted shifted groups board-made first_step r l start
      unfolding numbered
      shown-from-c start s = record {
        stepped = λ k c h. rw (steps-from-c numbers chars attrs words flags unshifted shifted groups board-made first_step (clock_of b k (line_of b r l) c)) (s.stepped k c h);
        draw-done = draw-answers-from-c numbers chars attrs words flags unshifted shifted groups board-made first_step (line_of b r l) (rw (size-from-c numbers chars attrs words flags unshifted shifted groups board-made first_step) (digits_lt hr hl));
        drawn = drawn-from-c numbers chars attrs words flags unshifted shifted groups board-made first_step (line_of b r l) _ s.drawn;
      }

      -- [fetch start]
      -- with the row table on they follow from the row's own entry, whatever the rest of memory holds
      pub row-from-table-from-c : table_of b.page ≡ true → ShownC numbers chars attrs words flags unshifted shifted groups board-made first_step r l (entry_of b.page chars r)
      row-from-table-from-c t = shown-from-c (entry_of b.page chars r) (row-from-table b chars attrs f (step_ok numbers chars attrs words flags unshifted shifted groups board-made first_step) r l hr hl t)

      -- [fetch start]
      -- with it off, from the cell r x HACT moves after screen start 1
      pub row-from-start-from-c : table_of b.page ≡ false → ShownC numbers chars attrs words flags unshifted shifted groups board-made first_step r l (follows b b.page.starts.start1 (r * hact_of b.page))
      row-from-start-from-c t = shown-from-c _ (row-from-start b chars attrs f (step_ok numbers chars attrs words flags unshifted shifted groups board-made first_step) r l hr hl t)
