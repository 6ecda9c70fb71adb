-- A board's page saved as numbers, there and back. Assumes nothing.
use Rattle.std.specs.Prelude.{ℕ, ◌≡◌, Bool, true, not, List, eqb, length, replicate, is_ok, Err}
use Rattle.std.proofs.Math.Path.{refl, ap}
use Rattle.std.proofs.Common.{◌∙◌}
use Rattle.std.proofs.Math.Bool.{false}
use borrow.Author.Tests.{ne_eqb, eqb-true}
use Rattle.lists.specs.Choice.{pick}
use Rattle.refusal.specs.declared.Refusal.TheVariants.{Size}
use Rattle.refusal.specs.Number.{unrefused, Checked, number_of}
use Rattle.refusal.specs.Laws.{some-refused}
use Rattle.board.specs.declared.Board.{Board}
use Rattle.board.specs.State.{power_of, board_of}
use Rattle.timing.specs.Check.{page_check}
use Rattle.files.specs.Page.{kept_page}
use Rattle.files.specs.Round.{Bytes}
use Rattle.numbers.specs.Numbers.{numbers_check, numbers_board, cleared, numbers_of_check, numbers_of}
use Rattle.feldrime.specs.declared.Answer.{Answer}
use Rattle.feldrime.specs.declared.BoardAnswer.{BoardAnswer}
use Rattle.feldrime.specs.Answers.{answer_of, board_answer}
use Rattle.feldrime.specs.Pages.{board_for}
use Rattle.agreement.specs.Numbers.{board-back-from-c, numbers-back}
use Rattle.callers.specs.Sizes.{made-refused, made-done}
use Rattle.callers.specs.Again.{answer-done}

-- the page's own answer, and its board, with the version as it counts; a refusal gives the board that power gives
unfoldable pub saved_board : Board → BoardAnswer
saved_board b = board_answer (page_check b.page) (pick (is_ok (page_check b.page)) (board_of (kept_page b.page)) power_of)

-- the numbers' own answer, then 3 where the room for them has another size
unfoldable pub saved_check : (numbers : List ℕ) (room : ℕ) → Checked
saved_check numbers room = pick (is_ok (numbers_check numbers)) (pick (not (eqb room 32)) (Err Size) unrefused) (numbers_check numbers)

-- version and page as they were, then zeros; on a refusal what stood there
unfoldable pub saved_numbers : (numbers out : List ℕ) → List ℕ
saved_numbers numbers out = pick (is_ok (saved_check numbers (length out))) (cleared numbers) out

-- ---- a board

module _ (b : Board) (irs-all : length b.page.irs ≡ 15) {a : Answer} {numbers : List ℕ}
    (saved : (a ≡ answer_of (numbers_of_check b 32)) × (numbers ≡ numbers_of b (replicate 32 0))) where
  pub board-refused : (a.refusal ≡ 0 → ⊥) → {p : Board} → p ≡ power_of → record { refusal = a.refusal; beside = a.beside; board = p } ≡ saved_board b
  unfolding saved_board numbers_of_check
  board-refused e q =
      let r : a.refusal ≡ number_of (page_check b.page) = ap (λ (x : Answer). x.refusal) saved.0 in
      let refused : is_ok (page_check b.page) ≡ false = some-refused _ (λ z. e (r ∙ z)) in
      rw (refused, q) (ap (λ (x : Answer). record { refusal = x.refusal; beside = x.beside; board = power_of }) saved.0)

  pub board-again : a.refusal ≡ 0 → {m : BoardAnswer} → m ≡ board_for numbers → m ≡ saved_board b
  unfolding saved_board numbers_of_check
  board-again e made =
      let ok : page_check b.page ≡ unrefused = answer-done (numbers_of_check b 32) saved.0 e in
      made ∙ rw (saved.1, ok) (board-back-from-c b irs-all (replicate 32 0) (ap number_of ok))

-- ---- numbers

module _ (numbers : List ℕ) (fits : Bytes numbers) (out : List ℕ) {m : BoardAnswer} (made : m ≡ board_for numbers) where
  pub not_made : (m.refusal ≡ 0 → ⊥) → (record { refusal = m.refusal; beside = m.beside } ≡ answer_of (saved_check numbers (length out))) × (out ≡ saved_numbers numbers out)
  unfolding saved_check saved_numbers
  not_made e =
      let r = made-refused numbers made e in
      (rw r.1 r.0, rw (r.1, r.1))

  pub numbers-again : m.refusal ≡ 0 → {a : Answer} {x : List ℕ} → (a ≡ answer_of (numbers_of_check m.board (length out))) × (x ≡ numbers_of m.board out)
      → (a ≡ answer_of (saved_check numbers (length out))) × (x ≡ saved_numbers numbers out)
  unfolding saved_check saved_numbers numbers_of_check numbers_of
  numbers-again z {a} {x} s = go (eqb (length out) 32) refl
    where
      done : (numbers_check numbers ≡ unrefused) × (m.board ≡ numbers_board numbers)
      done = made-done numbers made z

      go : (t : Bool) → eqb (length out) 32 ≡ t → (a ≡ answer_of (saved_check numbers (length out))) × (x ≡ saved_numbers numbers out)
      go true t =
          let back = numbers-back numbers fits out (eqb-true _ _ t) done.0 in
          let answers : numbers_of_check m.board (length out) ≡ unrefused = rw done.1 back.0 in
          let leaves : numbers_of m.board out ≡ cleared numbers = rw done.1 back.1 in
          (rw (done.0, t) (s.0 ∙ ap answer_of answers), rw (done.0, t) (s.1 ∙ leaves))
      go false t = (rw (done.0, t) (s.0 ∙ rw t), rw (done.0, t) (s.1 ∙ rw t))
