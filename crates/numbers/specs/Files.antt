-- A page file and its page's numbers.
use Rattle.std.specs.Prelude.{length, ◌≡◌, ℕ, Bool, ◌||◌, not, List, eqb, is_ok, Err}
use Rattle.lists.specs.Choice.{pick}
use Rattle.refusal.specs.declared.Refusal.TheVariants.{Size}
use Rattle.refusal.specs.Number.{Checked}
use Rattle.board.specs.Range.{memories_refused}
use Rattle.files.specs.File.{read_check, write_check, written, chars_read, attrs_read}
use Rattle.numbers.specs.Numbers.{numbers_refused, numbers_board, numbers_in}

-- 3 for a page that is read: the two memories, and room for the numbers
abbrev pub page_read_size : (numbers chars attrs : ℕ) → Bool
page_read_size numbers chars attrs = memories_refused chars attrs || not (eqb numbers 32)

-- the numbers afterwards: those of the file, and on a refusal as they were
unfoldable pub numbers_read : List ℕ → (size : Bool) → List ℕ → List ℕ
numbers_read file size numbers = pick (is_ok (read_check file size)) (numbers_in file) numbers

-- 3 for the numbers, then the write's own refusals
unfoldable pub page_write_check : List ℕ → (chars attrs out : ℕ) → Checked
page_write_check numbers chars attrs out = pick (numbers_refused numbers) (Err Size) (write_check (numbers_board numbers) chars attrs out)

-- the buffer afterwards, which stays where the numbers are refused
unfoldable pub page_written : (numbers chars attrs out : List ℕ) → List ℕ
page_written numbers chars attrs out = pick (numbers_refused numbers) out (written (numbers_board numbers) chars attrs out)

-- ---- the calls: the refusal, and the lent buffers afterwards

abbrev pub ReadsFile : (file numbers chars attrs : List ℕ) → Checked → (numbers_left chars_left attrs_left : List ℕ) → Type 0
ReadsFile file numbers chars attrs r numbers_left chars_left attrs_left =
    (r ≡ read_check file (page_read_size (length numbers) (length chars) (length attrs)))
    × (numbers_left ≡ numbers_read file (page_read_size (length numbers) (length chars) (length attrs)) numbers)
    × (chars_left ≡ chars_read file (page_read_size (length numbers) (length chars) (length attrs)) chars)
    × (attrs_left ≡ attrs_read file (page_read_size (length numbers) (length chars) (length attrs)) attrs)

abbrev pub WritesFile : (numbers chars attrs out : List ℕ) → Checked → (left : List ℕ) → Type 0
WritesFile numbers chars attrs out r left =
    (r ≡ page_write_check numbers (length chars) (length attrs) (length out)) × (left ≡ page_written numbers chars attrs out)
