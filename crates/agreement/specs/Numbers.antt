-- A board's page as numbers, there and back. All of it speaks of `numbers_of`, and of `feldrime_numbers_of` and `feldrime_board_of`. Assumes nothing.
use Rattle.std.specs.Prelude.{ℕ, ◌≡◌, not, List, eqb, length, Err}
use Rattle.std.proofs.Math.Path.{refl, ap}
use Rattle.std.proofs.Common.{sym, ◌∙◌}
use Rattle.refusal.specs.Number.{unrefused, number_of}
use Rattle.refusal.specs.declared.Refusal.TheVariants.{Size}
use Rattle.refusal.specs.Laws.{check-given, passed, zero-done}
use Rattle.board.specs.declared.Board.{Board}
use Rattle.board.specs.State.{board_of}
use Rattle.files.specs.Page.{kept_page}
use Rattle.files.specs.Round.{Bytes, kept-check}
use Rattle.numbers.specs.Numbers.{numbers_refused, numbers_check, numbers_board, cleared, numbers_of_check, numbers_of}
use Rattle.numbers.specs.Laws.{numbers-passed, saved-fine, saved-page, saved-numbers}
use Rattle.feldrime.specs.Answers.{answer_of, board_answer}
use Rattle.feldrime.specs.Pages.{board_for}

-- a board, which has fifteen IRs, and a buffer that its numbers are put into
module _ (b : Board) (irs-all : length b.page.irs ≡ 15) (out : List ℕ) where
  -- [more numbers]
  -- they are accepted, and are its page, its version as it counts, on an active board at clock 0, pointer at IR0
  pub board-back : numbers_of_check b (length out) ≡ unrefused → (numbers_check (numbers_of b out) ≡ unrefused) × (numbers_board (numbers_of b out) ≡ board_of (kept_page b.page))
  unfolding numbers_of numbers_of_check numbers_check
  board-back ok =
      let p = passed (not (eqb (length out) 32)) (Err Size) _ refl ok in
      let page = saved-page b.page irs-all in
      rw ok (rw (saved-fine b.page irs-all, page) (kept-check b.page ∙ p.1), ap board_of page)

  -- so too where feldrime_numbers_of answers 0
  pub board-back-from-c : (answer_of (numbers_of_check b (length out))).refusal ≡ 0 → board_for (numbers_of b out) ≡ board_answer unrefused (board_of (kept_page b.page))
  unfolding board_for
  board-back-from-c e = let s = board-back (zero-done (numbers_of_check b (length out)) e) in rw s.0 (ap (board_answer unrefused) s.1)

-- numbers that are accepted, and a buffer for as many
module _ (numbers : List ℕ) (fits : Bytes numbers) (out : List ℕ) (room : length out ≡ 32) where
  -- [more numbers]
  -- of their board they come back the same in all bytes that count, and zeros in the others
  pub numbers-back : numbers_check numbers ≡ unrefused
      → (numbers_of_check (numbers_board numbers) (length out) ≡ unrefused) × (numbers_of (numbers_board numbers) out ≡ cleared numbers)
  unfolding numbers_of numbers_of_check numbers_check
  numbers-back ok =
      let fine = numbers-passed numbers ok in
      let page = (passed (numbers_refused numbers) (Err Size) _ refl ok).1 in
      rw (room, page) (refl, saved-numbers numbers fits fine)

  -- so too where feldrime_board_of answers 0
  pub numbers-back-from-c : (board_for numbers).refusal ≡ 0
      → (answer_of (numbers_of_check (board_for numbers).board (length out)) ≡ answer_of unrefused) × (numbers_of (board_for numbers).board out ≡ cleared numbers)
  unfolding board_for
  numbers-back-from-c e =
      let ok = zero-done (numbers_check numbers) (ap number_of (sym (check-given (numbers_check numbers) (numbers_board numbers))) ∙ e) in
      let s = numbers-back ok in
      rw ok (ap answer_of s.0, s.1)
