-- Promise 3 over promise 2's lines: the dots of a line's active clocks, end to end, are those of the line drawn whole. Assumes nothing.
use Rattle.std.specs.Prelude.{ℕ, ◌+◌, ◌*◌, ◌/◌, ◌%◌, ◌≤◌, ◌<◌, ◌≡◌, true, eqb, length, take}
use Rattle.std.proofs.Common.{sym, ◌∙◌, arith, take_at}
use Rattle.std.proofs.Math.Path.{ap}
use mathlib.Core.List.{List, ◌++◌}
use borrow.Author.Tests.{lt-ltb, lt-leb, le-ltb}
use Rattle.std.proofs.Math.Arith.{digits_div, digits_mod}
use Rattle.std.proofs.Math.ListN.{drop}
use Rattle.lists.specs.Join.{joined, same-joined}
use Rattle.refusal.specs.Number.{unrefused}
use Rattle.raster.specs.declared.Row.{Row}
use Rattle.raster.specs.Wide.{is_wide}
use Rattle.raster.specs.Beams.{row}
use Rattle.board.specs.declared.Board.{Board}
use Rattle.timing.specs.Fields.{ht_of, vt_of, hact_of, lines_of, visible_of}
use Rattle.fetch.specs.Rows.{code_at, cell_at}
use Rattle.latch.specs.Held.{held_at, attributes_at}
use Rattle.latch.specs.Laws.{attributes-are}
use Rattle.shape.specs.Font.{Font}
use Rattle.video.specs.Scene.{scene_of}
use Rattle.line.specs.Length.{length-dots}
use Rattle.line.specs.Line.{row_for, code_for, scan_for, column_dots, line_dots, line_length, draw_check, drawn_of}
use Rattle.video.specs.Cell.{column_of}
use Rattle.video.specs.At.{scan_dots, dots_at, lent_check}
use Rattle.place.specs.Place.{active_at, loaded_in, place_at}
use Rattle.place.specs.Walk.{beam-at}
use Rattle.step.specs.Signals.{padded, clock_dots}
use Rattle.step.specs.Step.{stepped_of, step_check, step_of}
use Rattle.step.specs.After.{after, fits, at_clock, step_is, steps-are}

-- line l of frame k, and clock c of it, counted from clock 0
unfoldable pub line_count : Board → (k l : ℕ) → ℕ
line_count b k l = k * vt_of b.page + l

unfoldable pub clock_of : Board → (k l c : ℕ) → ℕ
clock_of b k l c = line_count b k l * ht_of b.page + c

-- the address that the step at that clock puts out
abbrev pub address_at : Board → (chars attrs : List ℕ) → Font → (k l c : ℕ) → ℕ
address_at b chars attrs f k l c = (step_of (after b chars attrs f (clock_of b k l c)) chars attrs f).address

-- the dots of a column of a line that shows the cell at an address, with the attributes that are valid there
abbrev pub shown_at : Board → (chars attrs : List ℕ) → Font → (line field c valid address : ℕ) → List ℕ
shown_at b chars attrs f line field c valid a =
    column_of (is_wide (code_for b chars line)) (eqb (c % 2) 1) (dots_at b chars attrs f (scan_for b chars line) field valid a)

-- what is drawn of a line, in any field and into any buffer that has room, is the dots of the cells at these addresses, end to end; bytes beyond stay.
-- Besides its own bytes a cell's dots depend on the attributes that are valid there: in field mode on the cells that were fetched before it in the frame, those
-- of the rows above too (`latch` Held); in character mode on nothing else (`plain-Row` in Rows)
abbrev pub DrawnFrom : Board → (chars attrs : List ℕ) → Font → (line : ℕ) → (address : ℕ → ℕ) → Type 0
DrawnFrom b chars attrs f line address = (field : ℕ) (out : List ℕ) → line_length b ≤ length out
    → drawn_of b chars attrs f line field out
    ≡ joined 0 (hact_of b.page) (λ c. shown_at b chars attrs f line field c (attributes_at b.page chars attrs (row_for b line) c) (address c))
    ++ drop (line_length b) out

module _ (b : Board) (chars attrs : List ℕ) (f : Font) (ok : step_check b chars attrs f ≡ unrefused) where
  module _ (k l c : ℕ) (hl : l < (visible_of b.page).0) (hc : c < hact_of b.page) where
    c_lt : c < ht_of b.page
    c_lt = omega (arith, (fits b chars attrs f ok).page.hfp)

    l_lt : l < vt_of b.page
    l_lt = omega arith

    clock-is : clock_of b k l c % ht_of b.page ≡ c
    unfolding clock_of
    clock-is = digits_mod (line_count b k l) c_lt

    count-is : clock_of b k l c / ht_of b.page ≡ line_count b k l
    unfolding clock_of
    count-is = digits_div (line_count b k l) c_lt

    line-is : clock_of b k l c / ht_of b.page % vt_of b.page ≡ l
    unfolding line_count
    line-is = rw count-is (digits_mod k l_lt)

    frame_is : clock_of b k l c / ht_of b.page / vt_of b.page ≡ k
    unfolding line_count
    frame_is = rw count-is (digits_div k l_lt)

    worked-on : (loaded_in b.page chars (place_at b.page chars attrs (clock_of b k l c))).beam
        ≡ row (cell_at b.page chars (row_for b l) c) (held_at b.page chars attrs (row_for b l) c) (code_at b.page chars (row_for b l))
    worked-on = beam-at b.page chars attrs (fits b chars attrs f ok).page (clock_of b k l c) (rw line-is hl) ∙ rw (line-is, clock-is)

    -- the address that the step puts out, and the board's place
    pub address_is : (step_of (after b chars attrs f (clock_of b k l c)) chars attrs f).address ≡ cell_at b.page chars (l / lines_of b.page) c
    unfolding stepped_of
    address_is =
        rw (steps-are b chars attrs f ok (clock_of b k l c), step_is b chars attrs f ok (clock_of b k l c)) (ap (λ (x : Row). x.address) worked-on)

    active : active_at b.page (at_clock b chars attrs f ok (clock_of b k l c)).place ≡ true
    unfolding place_at
    active = rw (line-is, clock-is, lt-ltb l (visible_of b.page).0 hl, lt-ltb c (hact_of b.page) hc)

    pub dots-are : (step_of (after b chars attrs f (clock_of b k l c)) chars attrs f).dots
        ≡ padded (column_dots b chars attrs f l (k % 256) c) b.page.video.dots.0
    unfolding stepped_of clock_dots column_dots dots_at scan_dots scene_of place_at
    dots-are =
        let n = clock_of b k l c in
        rw (steps-are b chars attrs f ok n, step_is b chars attrs f ok n)
        (ap (λ (x : Row). clock_dots (at_clock b chars attrs f ok n) chars attrs f x.code x.latch x.address) worked-on
        ∙ rw (active, line-is, clock-is, frame_is)
        (ap (λ (v : ℕ). padded (shown_at b chars attrs f l (k % 256) c v (cell_at b.page chars (row_for b l) c)) b.page.video.dots.0)
        (sym (attributes-are b.page chars attrs (row_for b l) c hc))))

  -- ---- the line

  -- a visible line and a buffer with room: nothing is refused, and the line's dots stand at the front of the buffer
  pub draw-answers : (l : ℕ) → l < (visible_of b.page).0 → (room : ℕ) → line_length b ≤ room
      → draw_check b (lent_check chars attrs f) l room ≡ unrefused
  unfolding draw_check
  draw-answers l hl room h = rw (lt-leb (visible_of b.page).0 l hl, le-ltb room (line_length b) h) ok

  pub draw-is : (l : ℕ) → l < (visible_of b.page).0 → (field : ℕ) (out : List ℕ) → line_length b ≤ length out
      → drawn_of b chars attrs f l field out ≡ line_dots b chars attrs f l field ++ drop (line_length b) out
  unfolding drawn_of
  draw-is l hl field out room = rw (draw-answers l hl (length out) room)

  pub drawn-from : (l : ℕ) → l < (visible_of b.page).0 → (address : ℕ → ℕ)
      → ((c : ℕ) → c < hact_of b.page → address c ≡ cell_at b.page chars (l / lines_of b.page) c) → DrawnFrom b chars attrs f l address
  unfolding line_dots column_dots
  drawn-from l hl address same field out room =
      draw-is l hl field out room
      ∙ ap (λ (d : List ℕ). d ++ drop (line_length b) out)
      (same-joined 0 (hact_of b.page) _ _
      (λ c _ h. ap (shown_at b chars attrs f l field c (attributes_at b.page chars attrs (row_for b l) c)) (sym (same c (omega arith)))))

  module _ (k l : ℕ) (hl : l < (visible_of b.page).0) where
    -- the dots that the step at column c puts out, without the places past them
    abbrev step_dots : ℕ → List ℕ
    step_dots c = take b.page.video.dots.0 (step_of (after b chars attrs f (clock_of b k l c)) chars attrs f).dots

    same-dots : (c : ℕ) → c < hact_of b.page → step_dots c ≡ column_dots b chars attrs f l (k % 256) c
    same-dots c hc =
        rw (dots-are k l c hl hc)
        (take_at _ _ b.page.video.dots.0 (length-dots b chars attrs f l (k % 256) (fits b chars attrs f ok).page c))

    -- the dots of the active clocks of line l of frame k, end to end
    pub stepped_line : joined 0 (hact_of b.page) step_dots ≡ line_dots b chars attrs f l (k % 256)
    unfolding line_dots
    stepped_line = same-joined 0 (hact_of b.page) step_dots (column_dots b chars attrs f l (k % 256)) (λ c _ h. same-dots c (omega arith))

    -- [demand line] the dots of a line's active clocks are the line drawn whole
    -- the line drawn whole with field count k modulo 256, into any buffer that has room
    pub same_line : (out : List ℕ) → line_length b ≤ length out
        → drawn_of b chars attrs f l (k % 256) out ≡ joined 0 (hact_of b.page) step_dots ++ drop (line_length b) out
    same_line out room = draw-is l hl (k % 256) out room ∙ ap (λ (d : List ℕ). d ++ drop (line_length b) out) (sym stepped_line)
