-- A picture is its visible lines as the line drawer writes them, the dots of all active clocks of a frame, in order, and the dots of its rows' cells. Assumes nothing.
use Rattle.std.specs.Prelude.{ℕ, ◌/◌, ◌%◌, ◌≤◌, ◌<◌, ◌≡◌, length, get_or, take}
use Rattle.std.proofs.Math.Path.{sym, ap}
use Rattle.std.proofs.Common.{◌∙◌, arith, le-ltb, take_at}
use mathlib.Core.List.{List, ◌++◌}
use Rattle.std.proofs.Math.Arith.{digits_div}
use Rattle.std.proofs.Math.ListN.{drop}
use Rattle.lists.specs.Join.{joined, same-joined, join-all}
use Rattle.refusal.specs.Number.{unrefused}
use Rattle.board.specs.declared.Board.{Board}
use Rattle.timing.specs.Fields.{hact_of, lines_of, rows_of, visible_of}
use Rattle.fetch.specs.RowCells.{cells_put}
use Rattle.fetch.specs.Rows.{cell_at}
use Rattle.latch.specs.Held.{attributes_at}
use Rattle.shape.specs.Font.{Font}
use Rattle.video.specs.At.{lent_check}
use Rattle.line.specs.Line.{column_dots, line_dots, line_length, drawn_of}
use Rattle.line.specs.Length.{length-line}
use Rattle.picture.specs.Picture.{picture_dots, picture_length, picture_check, pictured_of}
use Rattle.step.specs.Step.{step_check, step_of}
use Rattle.step.specs.After.{after, fits}
use Rattle.agreement.specs.Lines.{clock_of, shown_at, draw-is, stepped_line}
use Rattle.agreement.specs.Rows.{line_of, nth_cell, at-column}

module _ (b : Board) (chars attrs : List ℕ) (f : Font) (ok : step_check b chars attrs f ≡ unrefused) where
  -- [more picture]
  -- a buffer with room: nothing is refused, and the picture stands at its front
  pub picture-answers : (room : ℕ) → picture_length b.page ≤ room → picture_check b (lent_check chars attrs f) room ≡ unrefused
  unfolding picture_check
  picture-answers room h = rw (le-ltb room (picture_length b.page) h) ok

  picture-is : (field : ℕ) (out : List ℕ) → picture_length b.page ≤ length out
      → pictured_of b chars attrs f field out ≡ picture_dots b chars attrs f field ++ drop (picture_length b.page) out
  unfolding pictured_of
  picture-is field out room = rw (picture-answers (length out) room)

  -- what draw_line writes of line l into a buffer that has room
  abbrev written : (field : ℕ) → List ℕ → ℕ → List ℕ
  written field part l = take (line_length b) (drawn_of b chars attrs f l field part)

  written_is : (field : ℕ) (part : List ℕ) → line_length b ≤ length part → (l : ℕ) → l < (visible_of b.page).0 → written field part l ≡ line_dots b chars attrs f l field
  written_is field part room l h =
      rw (draw-is b chars attrs f ok l h field part room)
      (take_at _ _ (line_length b) (length-line b chars attrs f l field (fits b chars attrs f ok).page))

  -- [demand picture] the dots of all active clocks of a frame, in order, are its picture
  -- [more picture]
  -- the picture is what draw_line writes of line 0, 1, .., end to end; bytes beyond stay
  pub picture-by-lines : (field : ℕ) (out part : List ℕ) → picture_length b.page ≤ length out → line_length b ≤ length part
      → pictured_of b chars attrs f field out ≡ joined 0 (visible_of b.page).0 (written field part) ++ drop (picture_length b.page) out
  unfolding picture_dots
  picture-by-lines field out part room enough =
      picture-is field out room
      ∙ ap (λ (d : List ℕ). d ++ drop (picture_length b.page) out)
      (same-joined 0 (visible_of b.page).0 _ _ (λ l _ h. sym (written_is field part enough l (omega arith))))

  -- the dots of the active clocks of line l of frame k, end to end
  abbrev pub line_steps : (k l : ℕ) → List ℕ
  line_steps k l = joined 0 (hact_of b.page) (λ c. take b.page.video.dots.0 (step_of (after b chars attrs f (clock_of b k l c)) chars attrs f).dots)

  -- [demand picture]
  -- the picture with field count k modulo 256 is the dots of all active clocks of frame k, in order
  pub picture-by-steps : (k : ℕ) (out : List ℕ) → picture_length b.page ≤ length out
      → pictured_of b chars attrs f (k % 256) out ≡ joined 0 (visible_of b.page).0 (line_steps k) ++ drop (picture_length b.page) out
  unfolding picture_dots
  picture-by-steps k out room =
      picture-is (k % 256) out room
      ∙ ap (λ (d : List ℕ). d ++ drop (picture_length b.page) out)
      (same-joined 0 (visible_of b.page).0 _ _ (λ l _ h. sym (stepped_line b chars attrs f ok k l (omega arith))))

  -- ---- the cells of its rows

  module _ (field : ℕ) (cells : List ℕ) (wide : 256 ≤ length cells) where
    -- line l of row r from what `row_cells` leaves of the row in a buffer, and the attributes that are valid at each of its columns
    abbrev pub cell_line : (r l : ℕ) → List ℕ
    cell_line r l =
        joined 0 (hact_of b.page) (λ c. shown_at b chars attrs f (line_of b r l) field c (attributes_at b.page chars attrs r c) (get_or (cells_put b chars r cells) (nth_cell b chars r c) 0))

    line-from-cells : (r l : ℕ) → r < rows_of b.page → l < lines_of b.page → line_dots b chars attrs f (line_of b r l) field ≡ cell_line r l
    unfolding line_dots column_dots
    line-from-cells r l hr hl =
        let q : line_of b r l / lines_of b.page ≡ r = digits_div r hl in
        same-joined 0 (hact_of b.page) _ _ (λ c _ h.
        ap (λ (x : ℕ). shown_at b chars attrs f (line_of b r l) field c (attributes_at b.page chars attrs x c) (cell_at b.page chars x c)) q
        ∙ ap (shown_at b chars attrs f (line_of b r l) field c (attributes_at b.page chars attrs r c)) (sym (at-column b chars attrs f ok r l hr hl cells wide c (omega arith))))

    -- [more cells]
    -- the picture is the dots of the cells that `row_cells` gives, row by row, line by line, column by column; bytes beyond stay
    pub picture-from-cells : (out : List ℕ) → picture_length b.page ≤ length out
        → pictured_of b chars attrs f field out
        ≡ joined 0 (rows_of b.page) (λ r. joined 0 (lines_of b.page) (cell_line r)) ++ drop (picture_length b.page) out
    unfolding picture_dots
    picture-from-cells out room =
        picture-is field out room
        ∙ ap (λ (d : List ℕ). d ++ drop (picture_length b.page) out)
        (sym
        (same-joined 0 (rows_of b.page) _ _ (λ r _ hr.
        same-joined 0 (lines_of b.page) _ _ (λ l _ hl. sym (line-from-cells r l (omega arith) (omega arith))))
        ∙ join-all (λ (line : ℕ). line_dots b chars attrs f line field) (lines_of b.page) (rows_of b.page)))
