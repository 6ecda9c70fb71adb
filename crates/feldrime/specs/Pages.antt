-- The calls that take a page's numbers.
use Rattle.feldrime.specs.declared.Answer.{Answer}
use Rattle.numbers.specs.Files.{page_read_size, numbers_read, page_write_check, page_written}
use Rattle.files.specs.FontFile.{group_count, font_short, font_check, font_read}
use Rattle.files.specs.File.{read_check, chars_read, attrs_read}
use Rattle.shape.specs.Font.{Font}
use Rattle.board.specs.declared.Board.{Board}
use Rattle.std.specs.Prelude.{length, ◌≡◌, ℕ, List, is_ok, Err}
use Rattle.lists.specs.Choice.{pick}
use Rattle.refusal.specs.declared.Refusal.TheVariants.{Size}
use Rattle.refusal.specs.Number.{Checked, given, check_of}
use Rattle.board.specs.State.{power_of}
use Rattle.timing.specs.Check.{size_of, size_in}
use Rattle.fetch.specs.Run.{span_of, span_in}
use Rattle.files.specs.Page.{version_in, page_at}
use Rattle.numbers.specs.Numbers.{numbers_refused, numbers_check, numbers_board, numbers_of_check, numbers_of}
use Rattle.feldrime.specs.declared.SizeAnswer.{SizeAnswer}
use Rattle.feldrime.specs.declared.FontAnswer.{FontAnswer}
use Rattle.feldrime.specs.declared.RunAnswer.{RunAnswer}
use Rattle.feldrime.specs.declared.BoardAnswer.{BoardAnswer}
use Rattle.feldrime.specs.Answers.{size_answer, font_answer, run_answer, board_given, answer_of}

-- [refusal zeros]
unfoldable pub size_for : List ℕ → SizeAnswer
size_for numbers =
    pick (numbers_refused numbers) (size_answer (Err Size) 0 0)
    (size_answer (check_of (size_of (page_at numbers 1))) (size_in (page_at numbers 1)).lines.0 (size_in (page_at numbers 1)).dots.0)

-- a row's first run: its first address and how many cells, zeros on a refusal
unfoldable pub run_for : (numbers chars : List ℕ) → ℕ → RunAnswer
run_for numbers chars row =
    pick (numbers_refused numbers) (run_answer (Err Size) 0 0)
    (run_answer (check_of (span_of (numbers_board numbers) chars row)) (span_in (numbers_board numbers) chars row).start (span_in (numbers_board numbers) chars row).count)

-- a refusal gives the board that power gives
unfoldable pub board_for : List ℕ → BoardAnswer
board_for numbers = board_given (given (numbers_check numbers) (numbers_board numbers)) power_of

-- ---- files, and a board's numbers: the answer, and the lent buffers afterwards

abbrev pub ReadsPageFor : (file numbers chars attrs : List ℕ) → Answer → (numbers_left chars_left attrs_left : List ℕ) → Type 0
ReadsPageFor file numbers chars attrs r numbers_left chars_left attrs_left =
    (r ≡ answer_of (read_check file (page_read_size (length numbers) (length chars) (length attrs))))
    × (numbers_left ≡ numbers_read file (page_read_size (length numbers) (length chars) (length attrs)) numbers)
    × (chars_left ≡ chars_read file (page_read_size (length numbers) (length chars) (length attrs)) chars)
    × (attrs_left ≡ attrs_read file (page_read_size (length numbers) (length chars) (length attrs)) attrs)

abbrev pub WritesPageFor : (numbers chars attrs out : List ℕ) → Answer → (left : List ℕ) → Type 0
WritesPageFor numbers chars attrs out r left =
    (r ≡ answer_of (page_write_check numbers (length chars) (length attrs) (length out))) × (left ≡ page_written numbers chars attrs out)

-- how many groups the file has, none on a refusal
abbrev pub groups_read : Checked → (file : List ℕ) → ℕ
groups_read r file = pick (is_ok r) (group_count (version_in file)) 0

abbrev pub font_for : (file : List ℕ) → Font → FontAnswer
font_for file f = font_answer (font_check file (font_short file f)) (groups_read (font_check file (font_short file f)) file)

abbrev pub ReadsFontFor : (file : List ℕ) → Font → FontAnswer → (left : Font) → Type 0
ReadsFontFor file f r left = (r ≡ font_for file f) × (left ≡ font_read file f)

abbrev pub GivesNumbersFor : Board → (numbers : List ℕ) → Answer → (left : List ℕ) → Type 0
GivesNumbersFor b numbers r left = (r ≡ answer_of (numbers_of_check b (length numbers))) × (left ≡ numbers_of b numbers)
