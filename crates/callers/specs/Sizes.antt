-- The calls that take a page's numbers alone agree. Assumes nothing.
use Rattle.std.specs.Prelude.{ℕ, ◌≡◌, refl, Bool, true, false, ◌&&◌, ◌||◌, List, eqb, is_ok, Ok, Err}
use Rattle.std.proofs.Common.{sym, ap, ◌∙◌, eq-eqb, ne_eqb}
use Rattle.std.proofs.Math.Bool.{or-true}
use Rattle.refusal.specs.Number.{Checked, unrefused, number_of, beside_of}
use Rattle.refusal.specs.Laws.{zero-done, some-refused, check-given}
use Rattle.timing.specs.Check.{page_check, size_of}
use Rattle.files.specs.Page.{page_at}
use Rattle.numbers.specs.Numbers.{numbers_refused, numbers_board, numbers_check}
use Rattle.feldrime.specs.declared.Answer.{Answer}
use Rattle.feldrime.specs.declared.SizeAnswer.{SizeAnswer}
use Rattle.feldrime.specs.declared.BoardAnswer.{BoardAnswer}
use Rattle.feldrime.specs.Answers.{answer_of}
use Rattle.feldrime.specs.Pages.{size_for, board_for}

-- one number for all three, and one beside it; on a refusal no lines and no dots
abbrev pub agreed : Answer → SizeAnswer → BoardAnswer → Bool
agreed c s m =
    (((eqb s.refusal c.refusal && eqb s.beside c.beside) && eqb m.refusal c.refusal) && eqb m.beside c.beside)
    && (eqb c.refusal 0 || (eqb s.lines 0 && eqb s.dots 0))

agree : (numbers : List ℕ) → agreed (answer_of (numbers_check numbers)) (size_for numbers) (board_for numbers) ≡ true
unfolding numbers_check size_for board_for size_of
agree numbers = go (numbers_refused numbers) refl (page_check (page_at numbers 1)) refl
  where
    go : (t : Bool) → numbers_refused numbers ≡ t → (r : Checked) → page_check (page_at numbers 1) ≡ r
        → agreed (answer_of (numbers_check numbers)) (size_for numbers) (board_for numbers) ≡ true
    go true t r e = rw t
    go false t (Ok tt) e = rw (t, e)
    go false t (Err why) e = rw (t, e, eq-eqb (number_of (Err why)) _ refl, eq-eqb (beside_of (Err why)) _ refl, or-true (eqb (number_of (Err why)) 0))

pub calls-agree : (numbers : List ℕ) (c : Answer) (s : SizeAnswer) (m : BoardAnswer)
    → c ≡ answer_of (numbers_check numbers) → s ≡ size_for numbers → m ≡ board_for numbers → agreed c s m ≡ true
calls-agree numbers c s m p q r = rw (p, q, r) (agree numbers)

-- numbers that are refused
pub made-refused : (numbers : List ℕ) {m : BoardAnswer} → m ≡ board_for numbers → (m.refusal ≡ 0 → ⊥) → (record { refusal = m.refusal; beside = m.beside } ≡ answer_of (numbers_check numbers)) × (is_ok (numbers_check numbers) ≡ false)
unfolding board_for
made-refused numbers {m} made e =
    let own = check-given (numbers_check numbers) (numbers_board numbers) in
    let r : record { refusal = m.refusal; beside = m.beside } ≡ answer_of (numbers_check numbers) =
    ap (λ (x : BoardAnswer). record { refusal = x.refusal; beside = x.beside }) made ∙ ap answer_of own in
    (r, some-refused (numbers_check numbers) (λ q. e (ap (λ (x : Answer). x.refusal) r ∙ q)))

-- numbers that nothing refuses are made their board
pub made-done : (numbers : List ℕ) {m : BoardAnswer} → m ≡ board_for numbers → m.refusal ≡ 0 → (numbers_check numbers ≡ unrefused) × (m.board ≡ numbers_board numbers)
unfolding board_for
made-done numbers made z =
    let done : numbers_check numbers ≡ unrefused =
    zero-done _ (ap number_of (sym (check-given (numbers_check numbers) (numbers_board numbers))) ∙ ap (λ (x : BoardAnswer). x.refusal) (sym made) ∙ z) in
    (done, ap (λ (x : BoardAnswer). x.board) made ∙ rw done)
