-- The sentence for which the project exists, as its users call it. A generator draws whole lines with `feldrime_line_draw` from a page's 32 numbers; an editor
-- makes a board of the same numbers with `feldrime_board_of` and takes it from clock to clock with `feldrime_step`. Both show the same cells and the same dots.
-- All of it speaks of the definitions that the contracts of these calls cite, over the same numbers, memories and font parts. Assumes nothing.
use Prim.Native.Nat.{ℕ, zero, suc, ◌+◌, ◌*◌, ◌/◌, ◌%◌, ◌≤◌, ◌<◌}
use Rattle.std.specs.Prelude.{◌≡◌, Bool, length, get_or, is_ok, Err, Ok}
use Rattle.std.proofs.Math.Path.{refl, ap}
use Rattle.std.proofs.Common.{sym, ◌∙◌}
use Rattle.std.proofs.Math.Bool.{true, false}
use mathlib.Core.List.{List, ◌++◌}
use Rattle.std.proofs.Math.Dec.{ltb, leb}
use Rattle.std.proofs.Math.ListN.{take, drop}
use Rattle.lists.specs.Join.{joined, same-joined}
use Rattle.lists.specs.Tab.{tab, same-tab}
use Rattle.refusal.specs.declared.Refusal.TheVariants.{Size}
use Rattle.refusal.specs.Number.{unrefused, Checked, number_of, given, check_of, value_or}
use Rattle.refusal.specs.Laws.{done-is, zero-done, check-given, passed}
use Rattle.raster.specs.Moves.{Inside}
use Rattle.board.specs.declared.Board.{Board}
use Rattle.board.specs.State.{clock_zero, power_of}
use Rattle.timing.specs.Fields.{hact_of, lines_of, rows_of, visible_of, buffer_of}
use Rattle.timing.specs.Check.{page_check, size_of}
use Rattle.timing.specs.Laws.{call-passed, call_ok, call-page}
use Rattle.fetch.specs.Rows.{fetched_of}
use Rattle.fetch.specs.Run.{span_of, span_in}
use Rattle.fetch.specs.RowCells.{cells_put}
use Rattle.fetch.specs.Laws.{span-number}
use Rattle.latch.specs.Held.{attributes_at}
use Rattle.shape.specs.Font.{Font, font_of}
use Rattle.line.specs.Line.{row_for, line_length, draw_check, drawn_of}
use Rattle.picture.specs.Picture.{pictured_of}
use Rattle.video.specs.At.{lent_check}
use Rattle.step.specs.Step.{stepped_of, step_check, step_of}
use Rattle.step.specs.After.{after, step-answers}
use Rattle.board.specs.Parts.{with_place}
use Rattle.place.specs.State.{state_of}
use Rattle.files.specs.Page.{page_at}
use Rattle.numbers.specs.Numbers.{numbers_refused, numbers_board, numbers_check}
use Rattle.numbers.specs.Laws.{numbers-passed}
use Rattle.feldrime.specs.declared.StepAnswer.{StepAnswer}
use Rattle.feldrime.specs.declared.BoardAnswer.{BoardAnswer}
use Rattle.feldrime.specs.declared.Answer.{Answer}
use Rattle.feldrime.specs.Answers.{answer_of, size_answer, run_answer, cells_answer, board_answer}
use Rattle.feldrime.specs.Pages.{size_for, run_for, board_for}
use Rattle.feldrime.specs.LineDraw.{line_draw_check, line_drawn}
use Rattle.feldrime.specs.PictureDraw.{picture_draw_check, picture_drawn}
use Rattle.feldrime.specs.RowCells.{cells_for, cells_put_for}
use Rattle.feldrime.specs.Step.{numbered, step_numbers}
use Rattle.agreement.specs.Steps.{at-once-anywhere}
use Rattle.agreement.specs.Files.{zero_ok}
use Rattle.agreement.specs.Lines.{clock_of, shown_at, DrawnFrom, draw-answers, same_line}
use Rattle.agreement.specs.Frames.{frame_clocks}
use Rattle.agreement.specs.Pictures.{picture-answers, picture-by-lines, picture-by-steps, picture-from-cells}
use Rattle.agreement.specs.Rows.{line_of, follows, nth_cell, nth_column, run-answers, run-shown, cells-shown}

-- a step that answers 0 was refused by nothing
step-taken : (b : Board) (chars attrs : List ℕ) (f : Font) → (step_of b chars attrs f).refusal ≡ unrefused → step_check b chars attrs f ≡ unrefused
unfolding step_of
step-taken b chars attrs f e = go (is_ok (step_check b chars attrs f)) refl
  where
    go : (t : Bool) → is_ok (step_check b chars attrs f) ≡ t → step_check b chars attrs f ≡ unrefused
    go true d = done-is (step_check b chars attrs f) d
    go false d = rw d at e

module _ (numbers chars attrs words flags unshifted shifted groups : List ℕ) where
  -- the board that the numbers describe, and the font
  abbrev b : Board
  b = numbers_board numbers

  abbrev f : Font
  f = font_of words flags unshifted shifted groups

  -- the board after n calls of feldrime_step, from the board that feldrime_board_of gives
  unfoldable pub after_c : ℕ → Board
  after_c zero = (board_for numbers).board
  after_c (suc n) = (step_numbers (after_c n) chars attrs words flags unshifted shifted groups).board

  -- accepted or not, the board that is made stands at clock 0, where the steps begin
  pub steps-made : (n : ℕ) → after_c n ≡ after (board_for numbers).board chars attrs f n
  unfolding after_c after board_for
  steps-made zero = go (numbers_check numbers)
    where
      go : (r : Checked) → value_or power_of (given r b) ≡ with_place (value_or power_of (given r b)) clock_zero
      go (Ok tt) = refl
      go (Err why) = refl
  steps-made (suc n) = ap (λ (x : Board). (step_of x chars attrs f).board) (steps-made n)

  -- what the next feldrime_step answers
  abbrev pub step_c : ℕ → StepAnswer
  step_c n = (step_numbers (after_c n) chars attrs words flags unshifted shifted groups).answer

  -- what feldrime_state_at answers of a board
  abbrev pub state_c : Board → ℕ → BoardAnswer
  state_c from n = board_answer (check_of (state_of from chars attrs n)) (value_or from (state_of from chars attrs n))

  -- what feldrime_line_draw answers, and what it leaves in the buffer
  abbrev pub draw_c : (line room : ℕ) → Answer
  draw_c line room = answer_of (line_draw_check numbers chars attrs f line room)

  abbrev pub drawn_c : (line field : ℕ) → List ℕ → List ℕ
  drawn_c line field out = line_drawn numbers chars attrs f line field out

  -- what feldrime_picture_draw answers, and what it leaves in the buffer
  abbrev pub picture_c : (room : ℕ) → Answer
  picture_c room = answer_of (picture_draw_check numbers chars attrs f room)

  abbrev pub pictured_c : (field : ℕ) → List ℕ → List ℕ
  pictured_c field out = picture_drawn numbers chars attrs f field out

  -- ---- both are refused together

  -- a page's numbers that pass, and memories and font parts of the right sizes: this is what the promises on `step`, `state_at` and `draw_line` ask
  pub fit-from-c : numbers_check numbers ≡ unrefused → lent_check chars attrs f ≡ unrefused → step_check b chars attrs f ≡ unrefused
  unfolding numbers_check
  fit-from-c c l = call_ok b (lent_check chars attrs f) l (passed (numbers_refused numbers) (Err Size) _ refl c).1 (zero_ok (page_at numbers 1))

  -- then feldrime_board_of answers 0, and so does the first feldrime_step
  pub begins-from-c : numbers_check numbers ≡ unrefused → lent_check chars attrs f ≡ unrefused → ((board_for numbers).refusal ≡ 0) × ((step_c 0).refusal ≡ 0)
  unfolding numbered after_c board_for step_of stepped_of
  begins-from-c c l = rw (c, fit-from-c c l) (refl, refl)

  -- and so they do where feldrime_line_draw answers 0 for any line
  pub drawn-begins : (line room : ℕ) → (draw_c line room).refusal ≡ 0 → ((board_for numbers).refusal ≡ 0) × ((step_c 0).refusal ≡ 0)
  unfolding line_draw_check draw_check numbers_check
  drawn-begins line room e =
      let d = passed (numbers_refused numbers) (Err Size) _ refl (zero-done (line_draw_check numbers chars attrs f line room) e) in
      let asked = leb (visible_of b.page).0 line in
      let short = ltb room (line_length b) in
      let page = call-page b (lent_check chars attrs f) asked short d.1 in
      begins-from-c (rw d.0 page) (call-passed b (lent_check chars attrs f) asked short d.1).lent-fine

  -- numbers of which a board is made, and a first step that is not refused
  module _ (board-made : (board_for numbers).refusal ≡ 0) (first_step : (step_c 0).refusal ≡ 0) where
    check-ok : numbers_check numbers ≡ unrefused
    unfolding board_for
    check-ok = zero-done (numbers_check numbers) (ap number_of (sym (check-given (numbers_check numbers) b)) ∙ board-made)

    page-fine : page_check b.page ≡ unrefused
    unfolding numbers_check
    page-fine = (passed (numbers_refused numbers) (Err Size) _ refl check-ok).1

    board-is : (board_for numbers).board ≡ b
    unfolding board_for
    board-is = rw check-ok

    pub step_ok : step_check b chars attrs f ≡ unrefused
    unfolding after_c numbered
    step_ok = step-taken b chars attrs f (zero-done (step_of b chars attrs f).refusal (rw board-is at first_step))

    -- the steps for C are the steps, so all that holds of these holds of those
    pub steps-from-c : (n : ℕ) → after_c n ≡ after b chars attrs f n
    steps-from-c n = steps-made n ∙ ap (λ (x : Board). after x chars attrs f n) board-is

    -- then no step is refused
    pub steps-answer : (n : ℕ) → (step_c n).refusal ≡ 0
    unfolding numbered
    steps-answer n = rw (steps-from-c n, step-answers b chars attrs f step_ok n)

    -- [demand at-once]
    -- feldrime_state_at for clock n, asked of the board after any number of steps, answers 0 and the board after n steps
    pub at-once-from-c : (m n : ℕ) → ((state_c (after_c m) n).refusal ≡ 0) × ((state_c (after_c m) n).board ≡ after_c n)
    at-once-from-c m n =
        let s = at-once-anywhere b chars attrs f step_ok m n in
        rw (steps-from-c m, steps-from-c n) (ap number_of s.0, s.1)

    -- feldrime_page_size gives the visible lines, and how many bytes a line takes
    pub size-from-c : size_for numbers ≡ size_answer unrefused (visible_of b.page).0 (line_length b)
    unfolding size_for size_of numbers_check
    size-from-c = rw (numbers-passed numbers check-ok, page-fine)

    pub line-in : (l : ℕ) → l < (size_for numbers).lines → l < (visible_of b.page).0
    line-in l h = rw size-from-c at h

    pub room_in : (room : ℕ) → (size_for numbers).dots ≤ room → line_length b ≤ room
    room_in room h = rw size-from-c at h

    -- and where these do, feldrime_line_draw does, for every visible line and any buffer with room for it
    pub draw-answers-from-c : (l : ℕ) → l < (size_for numbers).lines → (room : ℕ) → (size_for numbers).dots ≤ room → draw_c l room ≡ answer_of unrefused
    unfolding line_draw_check
    draw-answers-from-c l hl room h = rw (numbers-passed numbers check-ok, draw-answers b chars attrs f step_ok l (line-in l hl) room (room_in room h))

    pub drawn-is : (l field : ℕ) (out : List ℕ) → drawn_c l field out ≡ drawn_of b chars attrs f l field out
    unfolding line_drawn
    drawn-is l field out = rw (numbers-passed numbers check-ok)

    -- [demand line]
    -- line l of frame k, with field count k modulo 256: feldrime_line_draw answers 0, and the buffer begins with the dots of the line's active clocks as
    -- feldrime_step answers them, end to end; bytes beyond stay
    pub same-line-from-c : (k l : ℕ) → l < (size_for numbers).lines → (out : List ℕ) → (size_for numbers).dots ≤ length out
        → (draw_c l (length out) ≡ answer_of unrefused)
        × (drawn_c l (k % 256) out
        ≡ joined 0 (hact_of b.page) (λ c. take b.page.video.dots.0 (step_c (clock_of b k l c)).dots) ++ drop (size_for numbers).dots out)
    unfolding numbered
    same-line-from-c k l hl out room = (
      draw-answers-from-c l hl (length out) room,
      drawn-is l (k % 256) out
          ∙ same_line b chars attrs f step_ok k l (line-in l hl) out (room_in (length out) room)
          ∙ rw size-from-c
          (ap (λ (d : List ℕ). d ++ drop (line_length b) out)
          (same-joined 0 (hact_of b.page) _ _
          (λ c _ h. ap (λ (x : Board). take b.page.video.dots.0 (step_of x chars attrs f).dots) (sym (steps-from-c (clock_of b k l c)))))),
    )

    -- ---- the picture

    -- feldrime_picture_draw answers 0 for any buffer with room for the page's lines
    pub picture-answers-from-c : (room : ℕ) → (size_for numbers).lines * (size_for numbers).dots ≤ room → picture_c room ≡ answer_of unrefused
    unfolding picture_draw_check
    picture-answers-from-c room h = rw (numbers-passed numbers check-ok, picture-answers b chars attrs f step_ok room (rw size-from-c at h))

    pictured-is : (field : ℕ) (out : List ℕ) → pictured_c field out ≡ pictured_of b chars attrs f field out
    unfolding picture_drawn
    pictured-is field out = rw (numbers-passed numbers check-ok)

    -- [demand picture]
    -- and the buffer begins with what feldrime_line_draw writes of line 0, 1, .. into a buffer that has room, end to end; bytes beyond stay
    pub picture-by-lines-from-c : (field : ℕ) (out part : List ℕ) → (size_for numbers).lines * (size_for numbers).dots ≤ length out → (size_for numbers).dots ≤ length part
        → pictured_c field out
        ≡ joined 0 (size_for numbers).lines (λ l. take (size_for numbers).dots (drawn_c l field part)) ++ drop ((size_for numbers).lines * (size_for numbers).dots) out
    picture-by-lines-from-c field out part room enough =
        pictured-is field out
        ∙ picture-by-lines b chars attrs f step_ok field out part (rw size-from-c at room) (rw size-from-c at enough)
        ∙ rw size-from-c
        (ap (λ (d : List ℕ). d ++ drop ((visible_of b.page).0 * line_length b) out)
        (same-joined 0 (visible_of b.page).0 _ _ (λ l _ h. ap (take (line_length b)) (sym (drawn-is l field part)))))

    -- [demand picture]
    -- frame k, with field count k modulo 256: the dots of all its active clocks as feldrime_step answers them, in order
    pub picture-by-steps-from-c : (k : ℕ) (out : List ℕ) → (size_for numbers).lines * (size_for numbers).dots ≤ length out
        → pictured_c (k % 256) out
        ≡ joined 0 (size_for numbers).lines (λ l. joined 0 (hact_of b.page) (λ c. take b.page.video.dots.0 (step_c (clock_of b k l c)).dots))
        ++ drop ((size_for numbers).lines * (size_for numbers).dots) out
    unfolding numbered
    picture-by-steps-from-c k out room =
        pictured-is (k % 256) out
        ∙ picture-by-steps b chars attrs f step_ok k out (rw size-from-c at room)
        ∙ rw size-from-c
        (ap (λ (d : List ℕ). d ++ drop ((visible_of b.page).0 * line_length b) out)
        (same-joined 0 (visible_of b.page).0 _ _ (λ l _ _.
        same-joined 0 (hact_of b.page) _ _
        (λ c _ h. ap (λ (x : Board). take b.page.video.dots.0 (step_of x chars attrs f).dots) (sym (steps-from-c (clock_of b k l c)))))))

    -- ---- the frame

    -- after n steps line and clock are both 0 exactly if whole frames are over, and the field counts the frames, modulo 256
    pub record FramedC (n : ℕ) : Type 0 where
      pub ends : n % frame_clocks b ≡ 0 → ((after_c n).place.line.0 ≡ 0) × ((after_c n).place.clock.0 ≡ 0)
      pub nowhere-else : (after_c n).place.line.0 ≡ 0 → (after_c n).place.clock.0 ≡ 0 → n % frame_clocks b ≡ 0
      pub counted : (after_c n).place.field ≡ n / frame_clocks b % 256

    -- ---- the cells of a row

    -- what feldrime_line_draw puts of a line, in every field and into any buffer that has room, is the dots of the cells at these addresses, end to end
    abbrev pub DrawnFromC : (line : ℕ) → (address : ℕ → ℕ) → Type 0
    DrawnFromC line address = (field : ℕ) (out : List ℕ) → (size_for numbers).dots ≤ length out
        → drawn_c line field out
        ≡ joined 0 (hact_of b.page) (λ c. shown_at b chars attrs f line field c (attributes_at b.page chars attrs (row_for b line) c) (address c))
        ++ drop (size_for numbers).dots out

    pub drawn-from-c : (line : ℕ) (address : ℕ → ℕ) → DrawnFrom b chars attrs f line address → DrawnFromC line address
    drawn-from-c line address d field out room = drawn-is line field out ∙ rw size-from-c (d field out (room_in (length out) room))

    -- table off, first ≤ screen start 1 ≤ last: every address that feldrime_step answers on an active clock of line l of
    -- frame k is in that range, and what feldrime_line_draw puts of the line is the dots of the cells at those addresses
    pub record StaysC (k l : ℕ) : Type 0 where
      pub stepped : (c : ℕ) → c < hact_of b.page → Inside (buffer_of b.page) (step_c (clock_of b k l c)).address
      pub drawn : DrawnFromC l (λ c. (step_c (clock_of b k l c)).address)

    -- line l of row r, where the row's cells follow from an address: the addresses that feldrime_step answers in every frame, and the cells whose dots
    -- feldrime_line_draw puts
    pub record ShownC (r l start : ℕ) : Type 0 where
      pub stepped : (k c : ℕ) → c < hact_of b.page → (step_c (clock_of b k (line_of b r l) c)).address ≡ follows b start (nth_cell b chars r c)
      pub draw-done : (room : ℕ) → (size_for numbers).dots ≤ room → draw_c (line_of b r l) room ≡ answer_of unrefused
      pub drawn : DrawnFromC (line_of b r l) (λ c. follows b start (nth_cell b chars r c))

    module _ (r l : ℕ) (hr : r < rows_of b.page) (hl : l < lines_of b.page) where
      run_is : run_for numbers chars r ≡ run_answer unrefused (span_in b chars r).start (span_in b chars r).count
      unfolding run_for
      run_is =
          let s = span_in b chars r in
          let done : check_of (span_of b chars r) ≡ unrefused = span-number b chars r ∙ run-answers b chars attrs f step_ok r l hr hl in
          rw (numbers-passed numbers check-ok) (ap (λ (x : Checked). run_answer x s.start s.count) done)

      -- [fetch run]
      -- the run that feldrime_row_run answers is what the row fetches first, cell after cell
      pub run-from-c : ((run_for numbers chars r).refusal ≡ 0)
          × ((k i : ℕ) → i < (run_for numbers chars r).count → (step_c (clock_of b k (line_of b r l) (nth_column b chars r i))).address ≡ (run_for numbers chars r).first + i)
      unfolding numbered
      run-from-c = rw run_is (refl, λ k i h. rw (steps-from-c (clock_of b k (line_of b r l) (nth_column b chars r i))) (run-shown b chars attrs f step_ok r l hr hl k i h))

      -- a buffer with room for any row: what feldrime_row_cells leaves there are, cell by cell, the addresses that feldrime_step answers on the columns that fetch
      -- them, on the line's active clocks in every frame, and elements beyond stay; at these addresses are the cells whose dots feldrime_line_draw puts; the first of them are the run that
      -- feldrime_row_run answers
      pub record CellsShownC (cells : List ℕ) : Type 0 where
        pub answered : cells_for numbers chars r (length cells) ≡ cells_answer unrefused (fetched_of b.page chars r)
        pub stepped : (k : ℕ) → cells_put_for numbers chars r cells
            ≡ tab (fetched_of b.page chars r) (λ i. (step_c (clock_of b k (line_of b r l) (nth_column b chars r i))).address) ++ drop (fetched_of b.page chars r) cells
        pub drawn : DrawnFromC (line_of b r l) (λ c. get_or (cells_put_for numbers chars r cells) (nth_cell b chars r c) 0)
        pub begun : (i : ℕ) → i < (run_for numbers chars r).count → get_or (cells_put_for numbers chars r cells) i 0 ≡ (run_for numbers chars r).first + i

      cells_are : (cells : List ℕ) → cells_put_for numbers chars r cells ≡ cells_put b chars r cells
      unfolding cells_put_for
      cells_are cells = rw (numbers-passed numbers check-ok)

      -- [more cells]
      -- so feldrime_row_cells gives what the steps fetch and the lines draw
      pub cells-from-c : (cells : List ℕ) → 256 ≤ length cells → CellsShownC cells
      unfolding cells_for numbered
      cells-from-c cells room =
          let s = cells-shown b chars attrs f step_ok r l hr hl cells room in
          record {
            answered = rw (numbers-passed numbers check-ok, s.answered);
            stepped = λ k. cells_are cells ∙ s.stepped k
                ∙ ap (λ (x : List ℕ). x ++ drop (fetched_of b.page chars r) cells)
                (same-tab (fetched_of b.page chars r) _ _ (λ i h. ap (λ (x : Board). (step_of x chars attrs f).address) (sym (steps-from-c (clock_of b k (line_of b r l) (nth_column b chars r i))))));
            drawn = rw (cells_are cells) (drawn-from-c (line_of b r l) _ s.drawn);
            begun = rw (cells_are cells, run_is) s.begun;
          }

    -- the picture that feldrime_picture_draw leaves is the dots of the cells that feldrime_row_cells gives, row by row, line by line, column by column
    pub picture-from-cells-from-c : (field : ℕ) (cells : List ℕ) → 256 ≤ length cells → (out : List ℕ) → (size_for numbers).lines * (size_for numbers).dots ≤ length out
        → pictured_c field out
        ≡ joined 0 (rows_of b.page) (λ r. joined 0 (lines_of b.page) (λ l.
        joined 0 (hact_of b.page) (λ c. shown_at b chars attrs f (line_of b r l) field c (attributes_at b.page chars attrs r c) (get_or (cells_put_for numbers chars r cells) (nth_cell b chars r c) 0))))
        ++ drop ((size_for numbers).lines * (size_for numbers).dots) out
    unfolding cells_put_for
    picture-from-cells-from-c field cells wide out room =
        pictured-is field out
        ∙ picture-from-cells b chars attrs f step_ok field cells wide out (rw size-from-c at room)
        ∙ rw (size-from-c, numbers-passed numbers check-ok)
