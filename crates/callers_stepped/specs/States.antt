-- The board stepped to is the board asked for. Assumes nothing.
use Rattle.std.specs.Prelude.{ℕ, zero, suc, ◌+◌, ◌≡◌, List, is_ok}
use Rattle.std.proofs.Math.Path.{sym, ap}
use Rattle.std.proofs.Common.{◌∙◌, add-zero, add-suc, add-one}
use Rattle.std.proofs.Math.Bool.{false}
use borrow.Author.Tests.{eq-eqb, ne_eqb}
use Rattle.lists.specs.Choice.{pick}
use Rattle.refusal.specs.Number.{unrefused, number_of, check_of, value_or}
use Rattle.refusal.specs.Laws.{zero-done, some-refused}
use Rattle.board.specs.declared.Board.{Board}
use Rattle.shape.specs.Font.{Font, font_of}
use Rattle.place.specs.State.{state_of}
use Rattle.step.specs.Step.{step_check, step_of}
use Rattle.step.specs.After.{after}
use Rattle.feldrime.specs.declared.BoardAnswer.{BoardAnswer}
use Rattle.feldrime.specs.declared.StepBy.{StepBy}
use Rattle.feldrime.specs.Answers.{board_answer}
use Rattle.feldrime.specs.Step.{step_numbers}
use Rattle.agreement.specs.Steps.{at_once}
use Rattle.callers_stepped.specs.Asked.{step-by-value, step-beside}

-- what a step answers for the board; where that is 0, the board that is asked for at clock n, and else the old one
unfoldable pub stepped_to : Board → (chars attrs : List ℕ) → Font → ℕ → BoardAnswer
stepped_to b chars attrs f n =
    board_answer (step_check b chars attrs f) (pick (is_ok (step_check b chars attrs f)) (value_or b (state_of b chars attrs n)) b)

-- the board after i single steps from where it stands
unfoldable pub on : Board → (chars attrs : List ℕ) → Font → ℕ → Board
on b chars attrs f zero = b
on b chars attrs f (suc i) = (step_of (on b chars attrs f i) chars attrs f).board

later : (b : Board) (chars attrs : List ℕ) (f : Font) (n i : ℕ) → on (after b chars attrs f n) chars attrs f i ≡ after b chars attrs f (n + i)
unfolding on after
later b chars attrs f n zero = ap (after b chars attrs f) (sym (add-zero n))
later b chars attrs f n (suc i) = ap (λ (x : Board). (step_of x chars attrs f).board) (later b chars attrs f n i) ∙ ap (after b chars attrs f) (sym (add-suc n i))

pub goes : (chars attrs words flags unshifted shifted groups : List ℕ) (i : ℕ) (from : Board) {at : Board} → at ≡ on from chars attrs (font_of words flags unshifted shifted groups) i
    → {s : StepBy} → s ≡ step_numbers at chars attrs words flags unshifted shifted groups → s.board ≡ on from chars attrs (font_of words flags unshifted shifted groups) (i + 1)
unfolding on
goes chars attrs words flags unshifted shifted groups i from here e = rw (e, here, add-one i)

module _ (b : Board) (chars attrs words flags unshifted shifted groups : List ℕ) where
  abbrev font : Font
  font = font_of words flags unshifted shifted groups

  module _ (n : ℕ) {s : StepBy} (tried : s ≡ step_numbers b chars attrs words flags unshifted shifted groups) where
    pub not-stepped : (s.answer.refusal ≡ 0 → ⊥) → record { refusal = s.answer.refusal; beside = s.answer.beside; board = b } ≡ stepped_to b chars attrs font n
    unfolding stepped_to
    not-stepped e =
        let r : s.answer.refusal ≡ number_of (step_check b chars attrs font) = step-by-value b chars attrs words flags unshifted shifted groups tried in
        let refused : is_ok (step_check b chars attrs font) ≡ false = some-refused _ (λ q. e (r ∙ q)) in
        let k = step-beside b chars attrs words flags unshifted shifted groups tried in
        rw refused (λ i. record { refusal = r i; beside = k i; board = b })

    -- the state asked for at a clock is that of the steps so far, and steps go on from there
    pub stepped : s.answer.refusal ≡ 0 → (from i : ℕ) {a : BoardAnswer} → a ≡ board_answer (check_of (state_of b chars attrs from)) (value_or b (state_of b chars attrs from))
        → {at : Board} → at ≡ on a.board chars attrs font i → from + i ≡ n → record { refusal = 0; beside = 0; board = at } ≡ stepped_to b chars attrs font n
    unfolding stepped_to
    stepped e from i {a} asked here q =
        let r : s.answer.refusal ≡ number_of (step_check b chars attrs font) = step-by-value b chars attrs words flags unshifted shifted groups tried in
        let ok : step_check b chars attrs font ≡ unrefused = zero-done _ (sym r ∙ e) in
        let start : a.board ≡ after b chars attrs font from = ap (λ (x : BoardAnswer). x.board) asked ∙ (at_once b chars attrs font ok from).1 in
        let last = here ∙ ap (λ (x : Board). on x chars attrs font i) start ∙ later b chars attrs font from i ∙ ap (after b chars attrs font) q ∙ sym (at_once b chars attrs font ok n).1 in
        rw ok (λ k. record { refusal = 0; beside = 0; board = last k })
