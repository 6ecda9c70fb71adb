-- A line drawn by stepping is the line drawn whole. Assumes nothing.
use Rattle.std.specs.Prelude.{ℕ, suc, ◌+◌, ◌*◌, ◌≤◌, ◌<◌, ◌≡◌, List, ◌++◌, length, take, drop}
use Rattle.std.proofs.Common.{sym, ap, ◌∙◌, mul-le-mul, add-zero, length-take, take_at}
use Rattle.std.proofs.Math.Nat.{mod-eq_of_lt}
use native.Mathlib.Omega.{arith}
use Rattle.std.proofs.Math.Seq.{take-length}
use Rattle.units.specs.declared.Clocks.{Clocks}
use Rattle.units.specs.declared.Lines.{Lines}
use Rattle.units.specs.Units.{clocks, lines, clocks_of}
use Rattle.refusal.specs.Number.{unrefused, check_of, value_or}
use Rattle.board.specs.declared.Page.{Page}
use Rattle.board.specs.declared.Board.{Board}
use Rattle.timing.specs.declared.Timing.{Timing}
use Rattle.timing.specs.Fields.{ht_of, vt_of, hact_of, visible_of, timing_of}
use Rattle.timing.specs.Decoded.{ht-is, vt_is}
use Rattle.timing.specs.Laws.{visible-bound, ht-bound, vt-bound}
use Rattle.shape.specs.Font.{Font, font_of}
use Rattle.line.specs.Line.{column_dots, line_length}
use Rattle.line.specs.Length.{length-dots}
use Rattle.step.specs.Step.{step_check}
use Rattle.step.specs.After.{after, fits}
use Rattle.place.specs.State.{state_of}
use Rattle.feldrime.specs.declared.StepBy.{StepBy}
use Rattle.feldrime.specs.declared.BoardAnswer.{BoardAnswer}
use Rattle.feldrime.specs.Answers.{board_answer}
use Rattle.feldrime.specs.Step.{numbered, step_numbers}
use Rattle.agreement.specs.Steps.{at_once}
use Rattle.agreement.specs.Lines.{line_count, clock_of, dots-are}

-- a line that stepping can draw
pub record Steppable (b : Board) (chars attrs : List ℕ) (f : Font) (line room : ℕ) : Type 0 where
  pub accepted : step_check b chars attrs f ≡ unrefused
  pub visible : line < (visible_of b.page).0
  pub roomy : line_length b ≤ room

-- ---- a line's first clock

module _ (page : Page) {t : Timing} (e : t ≡ timing_of page) where
  -- 256 frames of at most 2,153 lines of at most 384 clocks
  module _ (field line : ℕ) (f : field < 256) (v : line < (visible_of page).0) where
    pub frames-fit : field * t.counts.vt.0 ≤ 549015
    frames-fit = rw (vt_is _ _ e) (let h : field ≤ 255 = omega arith in mul-le-mul h (vt-bound page))

    lines_fit : field * t.counts.vt.0 + line ≤ 551168
    lines_fit = omega (arith, frames-fit, visible-bound page)

    pub frames-line : {n : Lines} → n ≡ lines (field * t.counts.vt.0) → n.0 + line ≤ 551168
    frames-line p = rw p lines_fit

    pub clocks-fit : {n m : Lines} → n ≡ lines (field * t.counts.vt.0) → m ≡ lines (n.0 + line) → m.0 * t.counts.ht.0 ≤ 211648512
    clocks-fit p q = rw (q, p, ht-is _ _ e) (mul-le-mul lines_fit (ht-bound page))

pub clock-is : (b : Board) {t : Timing} → t ≡ timing_of b.page → (field line : ℕ) {n m : Lines} → n ≡ lines (field * t.counts.vt.0) → m ≡ lines (n.0 + line)
    → {k : Clocks} → k ≡ clocks_of m t.counts.ht → k ≡ clocks (clock_of b field line 0)
unfolding clock_of line_count
clock-is b e field line p q r =
    r ∙ rw (q, p, vt_is _ _ e, ht-is _ _ e) (ap clocks (sym (add-zero ((field * vt_of b.page + line) * ht_of b.page))))

-- ---- the loop: the board stands at column c of the line, and steps

module _ {b : Board} {chars attrs words flags unshifted shifted groups : List ℕ} {line room : ℕ}
    (s : Steppable b chars attrs (font_of words flags unshifted shifted groups) line room) where
  pub width : b.page.video.dots.0 ≤ 12
  width = (fits b chars attrs (font_of words flags unshifted shifted groups) s.accepted).page.most

  -- n turns have room
  pub turns_fit : {n : ℕ} → n ≡ hact_of b.page → n * b.page.video.dots.0 ≤ room
  turns_fit e = rw e s.roomy

  module _ (field : ℕ) (small : field < 256) where
    abbrev pub at_column : ℕ → Board
    at_column c = after b chars attrs (font_of words flags unshifted shifted groups) (clock_of b field line c)

    abbrev pub column_of : ℕ → List ℕ
    column_of c = column_dots b chars attrs (font_of words flags unshifted shifted groups) line field c

    pub each : (c : ℕ) → length (column_of c) ≡ b.page.video.dots.0
    each = length-dots b chars attrs (font_of words flags unshifted shifted groups) line field (fits b chars attrs (font_of words flags unshifted shifted groups) s.accepted).page

    pub line-begins : {n : Clocks} {a : BoardAnswer} → n ≡ clocks (clock_of b field line 0)
        → a ≡ board_answer (check_of (state_of b chars attrs n.0)) (value_or b (state_of b chars attrs n.0)) → a.board ≡ at_column 0
    line-begins e q = ap (λ (x : BoardAnswer). x.board) q ∙ rw e (at_once b chars attrs (font_of words flags unshifted shifted groups) s.accepted (clock_of b field line 0)).1

    next-clock : (c : ℕ) → clock_of b field line (c + 1) ≡ suc (clock_of b field line c)
    unfolding clock_of
    next-clock c = omega arith

    module _ (c : ℕ) {at : Board} (here : at ≡ at_column c) {x : StepBy} (step : x ≡ step_numbers at chars attrs words flags unshifted shifted groups) where
      pub goes_on : x.board ≡ at_column (c + 1)
      unfolding after
      goes_on = rw (step, here, next-clock c)

      module _ (h : c < hact_of b.page) where
        shows : take b.page.video.dots.0 x.answer.dots ≡ column_of c
        unfolding numbered
        shows =
            rw (step, here, dots-are b chars attrs (font_of words flags unshifted shifted groups) s.accepted field line c s.visible h, mod-eq_of_lt small)
            (take_at _ _ b.page.video.dots.0 (each c))

        pub wide : b.page.video.dots.0 ≡ length (take b.page.video.dots.0 x.answer.dots)
        wide = sym (ap length shows ∙ each c)

        pub enough : b.page.video.dots.0 ≤ length x.answer.dots
        enough = omega (arith, wide, length-take b.page.video.dots.0 x.answer.dots)

        -- what the copy of a step's dots leaves in the part that was lent
        pub copied : (part : List ℕ) {ys : List ℕ}
            → ys ≡ take (length (take b.page.video.dots.0 x.answer.dots)) (take b.page.video.dots.0 x.answer.dots) ++ drop (length (take b.page.video.dots.0 x.answer.dots)) part
            → ys ≡ column_of c ++ drop b.page.video.dots.0 part
        copied part q = q ∙ rw (shows, take-length (column_of c), each c)
