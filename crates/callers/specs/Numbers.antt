-- A page's numbers made a board, written and read again. Assumes nothing.
use Rattle.std.specs.Prelude.{ℕ, ◌≡◌, Bool, not, eqb, length, take, drop, replicate, is_ok, Err}
use Rattle.std.proofs.Math.Path.{refl, ap}
use Rattle.std.proofs.Common.{sym, ◌∙◌, arith, take_at}
use Rattle.std.proofs.Math.Bool.{true, false}
use mathlib.Core.List.{List, [], ◌++◌}
use borrow.Author.Tests.{eq-eqb, le-ltb}
use Rattle.lists.specs.Choice.{pick}
use Rattle.refusal.specs.declared.Refusal.TheVariants.{Size}
use Rattle.refusal.specs.Number.{unrefused, Checked, number_of, check_of}
use Rattle.refusal.specs.Laws.{done-is, zero-done, check-given, passed}
use Rattle.board.specs.declared.Page.{Page}
use Rattle.board.specs.declared.Board.{Board}
use Rattle.board.specs.Layout.{newest_version, page_length, length_field, file_size}
use Rattle.board.specs.Modes.{version_of}
use Rattle.board.specs.Range.{memories_refused}
use Rattle.board.specs.Laws.{layout-kept}
use Rattle.timing.specs.Check.{page_check, state_refused, call_check}
use Rattle.timing.specs.Laws.{range-ok}
use Rattle.files.specs.Page.{version_in, page_at, page_bytes}
use Rattle.files.specs.File.{file_check, read_check, read_page_of, head_of, file_of, write_check, written}
use Rattle.files.specs.Laws.{file-passed, page-irs, bytes-all, file-most}
use Rattle.files.specs.Round.{Bytes}
use Rattle.numbers.specs.Numbers.{numbers_refused, numbers_board, zeros_after, numbers_front, numbers_in, cleared, numbers_check}
use Rattle.numbers.specs.Files.{page_read_size, numbers_read}
use Rattle.numbers.specs.Laws.{numbers-passed, numbers-room, saved-numbers}
use Rattle.feldrime.specs.declared.Answer.{Answer}
use Rattle.feldrime.specs.declared.BoardAnswer.{BoardAnswer}
use Rattle.feldrime.specs.Answers.{answer_of}
use Rattle.feldrime.specs.Pages.{board_for}
use Rattle.agreement.specs.Files.{file-is, board-same}
use Rattle.callers.specs.Sizes.{made-refused, made-done}

-- the numbers' own answer, then 3 where a memory or the room for the numbers has another size
unfoldable pub numbers_again_check : (numbers : List ℕ) (chars attrs room : ℕ) → Checked
numbers_again_check numbers chars attrs room =
    pick (is_ok (numbers_check numbers)) (pick (memories_refused chars attrs) (Err Size) (pick (not (eqb room 32)) (Err Size) unrefused)) (numbers_check numbers)

-- version and page as they were, then zeros; on a refusal what stood there
unfoldable pub numbers_again : (numbers : List ℕ) (chars attrs : ℕ) (out : List ℕ) → List ℕ
numbers_again numbers chars attrs out = pick (is_ok (numbers_again_check numbers chars attrs (length out))) (cleared numbers) out

-- ---- the numbers of a page's file are the page's numbers

numbers_of : (xs chars attrs : List ℕ) → Bytes xs → numbers_refused xs ≡ false → numbers_in (file_of (page_at xs 1) chars attrs) ≡ cleared xs
unfolding file_of head_of
numbers_of xs chars attrs fits fine = rw (layout-kept own) (ap (λ (l : List ℕ). numbers_front (version_of own) l (zeros_after own.version)) part) ∙ saved-numbers xs fits fine
  where
    own : Page
    own = page_at xs 1

    part : take (page_length own.version) (drop 5 (head_of own ++ (chars ++ attrs))) ≡ page_bytes own
    part = take_at (page_bytes own) (chars ++ attrs) (page_length own.version) (bytes-all own (page-irs xs 1 (numbers-room xs fine)))

-- ---- the write, and the read of what was written

-- room for the longest page file
abbrev longest : ℕ
longest = 32798

abbrev zeros : List ℕ
zeros = replicate longest 0

module _ (numbers : List ℕ) (fits : Bytes numbers) (chars attrs out : List ℕ) {m : BoardAnswer} (made : m ≡ board_for numbers) where
  abbrev Again : Answer → List ℕ → Type 0
  Again a x = (a ≡ answer_of (numbers_again_check numbers (length chars) (length attrs) (length out))) × (x ≡ numbers_again numbers (length chars) (length attrs) out)

  pub not_made : (m.refusal ≡ 0 → ⊥) → Again (record { refusal = m.refusal; beside = m.beside }) out
  unfolding numbers_again_check numbers_again
  not_made e =
      let r = made-refused numbers made e in
      (rw r.1 r.0, rw (r.1, r.1))

  module _ (z : m.refusal ≡ 0) {w : Checked} {file : List ℕ}
      (wrote : (w ≡ write_check m.board (length chars) (length attrs) longest) × (file ≡ written m.board chars attrs zeros)) where
    done : numbers_check numbers ≡ unrefused
    done = (made-done numbers made z).0

    page-ok : page_check (numbers_board numbers).page ≡ unrefused
    unfolding numbers_check
    page-ok = (passed (numbers_refused numbers) (Err Size) _ refl done).1

    at_zero : state_refused (numbers_board numbers) ≡ false
    at_zero = range-ok (numbers_board numbers) (record { line-lt = omega arith; clock-lt = omega arith; beam-le = omega arith; row-le = omega arith; pointer-le = omega arith })

    write-is : write_check (numbers_board numbers) (length chars) (length attrs) longest ≡ pick (memories_refused (length chars) (length attrs)) (Err Size) unrefused
    unfolding write_check call_check
    write-is = go (memories_refused (length chars) (length attrs)) refl
      where
        go : (t : Bool) → memories_refused (length chars) (length attrs) ≡ t → write_check (numbers_board numbers) (length chars) (length attrs) longest ≡ pick t (Err Size) unrefused
        go true t = rw t
        go false t = rw (t, le-ltb longest (file_size (numbers_board numbers).page.version) (file-most _), page-ok, at_zero)

    wrote-is : w ≡ pick (memories_refused (length chars) (length attrs)) (Err Size) unrefused
    wrote-is = wrote.0 ∙ rw (made-done numbers made z).1 write-is

    pub not_written : {n : ℕ} → n ≡ number_of w → (n ≡ 0 → ⊥) → Again (record { refusal = n; beside = 0 }) out
    unfolding numbers_again_check numbers_again
    not_written {n} e f = go (memories_refused (length chars) (length attrs)) refl
      where
        go : (t : Bool) → memories_refused (length chars) (length attrs) ≡ t → Again (record { refusal = n; beside = 0 }) out
        go true t = (rw (done, t, e, wrote-is, t), rw (done, t))
        go false t = absurd (f (e ∙ rw (wrote-is, t)))

    -- as many bytes of it as the page's version has are read
    module _ {n : ℕ} (e : n ≡ number_of w) (y : n ≡ 0) {part : List ℕ} (cut : part ≡ take (file_size m.board.page.version) file) where
      fine : memories_refused (length chars) (length attrs) ≡ false
      fine = (passed (memories_refused (length chars) (length attrs)) (Err Size) unrefused refl (sym wrote-is ∙ zero-done w (sym e ∙ y))).0

      irs-all : length (numbers_board numbers).page.irs ≡ 15
      irs-all = page-irs numbers 1 (numbers-room numbers (numbers-passed numbers done))

      ok : write_check (numbers_board numbers) (length chars) (length attrs) longest ≡ unrefused
      ok = write-is ∙ rw fine

      front : part ≡ take (file_size (numbers_board numbers).page.version) (written (numbers_board numbers) chars attrs zeros)
      front =
          cut ∙ ap (take (file_size m.board.page.version)) wrote.1
          ∙ ap (λ (b : Board). take (file_size b.page.version) (written b chars attrs zeros)) (made-done numbers made z).1

      read_done : read_check part false ≡ unrefused
      unfolding read_page_of
      read_done = sym (check-given (read_check part false) _) ∙ ap check_of (board-same (numbers_board numbers) irs-all chars attrs zeros ok [] [] part front).0

      read_is : (size : Bool) → read_check part size ≡ pick size (Err Size) unrefused
      unfolding read_check file_check
      read_is size =
          let p = file-passed part newest_version (length_field (version_in part)) false (page_check (page_at part 5)) read_done in
          rw (p.version-ok, p.length-ok, p.rest_ok)

      numbers-are : numbers_in part ≡ cleared numbers
      numbers-are = rw (front ∙ file-is (numbers_board numbers) irs-all chars attrs zeros ok) (numbers_of numbers chars attrs fits (numbers-passed numbers done))

      pub numbers-read : {a : Answer} {x : List ℕ}
          → (a ≡ answer_of (read_check part (page_read_size (length out) 16384 16384))) × (x ≡ numbers_read part (page_read_size (length out) 16384 16384) out) → Again a x
      unfolding numbers_read numbers_again_check numbers_again
      numbers-read r =
          let is = read_is (not (eqb (length out) 32)) in
          (rw (done, fine) (r.0 ∙ ap answer_of is), rw (done, fine) (r.1 ∙ rw (is, numbers-are)))
