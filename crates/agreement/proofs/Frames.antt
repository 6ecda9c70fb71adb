-- Promise 3, proved: what every frame takes, and that no fetch leaves an ordered buffer (specs Frames). Assumes nothing.
use Rattle.std.specs.Prelude.{ℕ, ◌*◌, ◌/◌, ◌%◌, ◌≤◌, ◌<◌, ◌≡◌, false, List}
use Rattle.std.proofs.Common.{sym, ap}
use Rattle.std.proofs.Math.Nat.{mul_comm}
use Rattle.refusal.specs.Number.{unrefused}
use Rattle.raster.specs.Moves.{Inside}
use Rattle.raster.specs.Tick.{by-frame}
use Rattle.raster.specs.Raster.{Good, at_once}
use Rattle.raster.specs.Frame.{frame→, frame←}
use Rattle.raster.specs.Cells.{cells-inside}
use Rattle.raster.specs.Beams.{row}
use Rattle.board.specs.declared.Board.{Board}
use Rattle.timing.specs.Fields.{ht_of, vt_of, lines_of, visible_of, table_of, buffer_of, counts_of}
use Rattle.timing.specs.Laws.{accepted-good, buffer-bounded, frame_bound}
use Rattle.fetch.specs.Rows.{cell_at}
use Rattle.fetch.specs.Feed.{feed_in, tally_in, cell-fed}
use Rattle.shape.specs.Font.{Font}
use Rattle.place.specs.Place.{place_at}
use Rattle.place.specs.Beam.{rows_in}
use Rattle.step.specs.Step.{step_check}
use Rattle.step.specs.After.{fits, steps-are}
use Rattle.agreement.specs.Lines.{address_at, address_is, drawn-from}
use Rattle.agreement.specs.Frames.{frame_clocks, Framed, Stays}

module _ (b : Board) (chars attrs : List ℕ) (f : Font) (ok : step_check b chars attrs f ≡ unrefused) where
  frame-product : frame_clocks b ≡ ht_of b.page * vt_of b.page
  unfolding counts_of
  frame-product = mul_comm (vt_of b.page) (ht_of b.page)

  -- the counts of the beam
  good : Good (counts_of b.page)
  good = accepted-good b.page (fits b chars attrs f ok).page

  -- [demand frame] a frame takes exactly clocks per line times lines per frame
  -- so every frame, and not the first alone, takes exactly its clocks
  pub every-frame : (n : ℕ) → Framed b chars attrs f ok n
  unfolding place_at at_once counts_of
  every-frame n =
      let at_n = steps-are b chars attrs f ok n in
      let counts = counts_of b.page in
      let rows = rows_in b.page chars attrs in
      record {
        ends = λ e. rw at_n (frame→ counts rows good (row 0 0 0) n (rw frame-product at e));
        nowhere-else = λ p q. rw frame-product (frame← counts rows good (row 0 0 0) n (rw at_n at p) (rw at_n at q));
        counted = rw (at_n, frame-product) (ap (λ (x : ℕ). x % 256) (sym (by-frame n (ht_of b.page) (vt_of b.page))));
      }

  -- [demand frame]
  -- a frame has at most 826,752 clocks
  pub frame-at-most : frame_clocks b ≤ 826752
  frame-at-most = frame_bound b.page

  cells_stay : table_of b.page ≡ false → Inside (buffer_of b.page) b.page.starts.start1
      → (r c : ℕ) → Inside (buffer_of b.page) (cell_at b.page chars r c)
  cells_stay t i r c =
      rw (cell-fed b.page chars r c) (cells-inside (feed_in b.page chars) (tally_in b.page chars) t (buffer-bounded b.page).last-lt i r c)

  -- [demand inside] row table off, ordered buffer: no fetch leaves it
  -- so no fetch leaves the buffer
  pub stays-inside : table_of b.page ≡ false → Inside (buffer_of b.page) b.page.starts.start1
      → (k l : ℕ) → l < (visible_of b.page).0 → Stays b chars attrs f ok k l
  stays-inside t i k l hl = record {
    stepped = λ c hc. rw (address_is b chars attrs f ok k l c hl hc) (cells_stay t i (l / lines_of b.page) c);
    drawn = drawn-from b chars attrs f ok l hl (address_at b chars attrs f k l) (λ c hc. address_is b chars attrs f ok k l c hl hc);
  }
