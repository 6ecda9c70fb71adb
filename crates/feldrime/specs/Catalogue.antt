-- A page moved to a row table and back, from its numbers (02, R-5).
use Rattle.feldrime.specs.Answers.{answer_of}
use Rattle.feldrime.specs.declared.Answer.{Answer}
use Rattle.std.specs.Prelude.{◌≡◌, ℕ, List, Err}
use Rattle.lists.specs.Choice.{pick}
use Rattle.refusal.specs.Number.{Checked, check_of}
use Rattle.refusal.specs.declared.Refusal.TheVariants.{Size}
use Rattle.catalogue.specs.ToTable.{as_table, as_table_left}
use Rattle.catalogue.specs.ToSheet.{as_sheet}
use Rattle.numbers.specs.Numbers.{numbers_refused, numbers_board, page_or_own}

-- 3 for the numbers, then the move's own
unfoldable pub to_table_check : (numbers chars : List ℕ) → Checked
to_table_check numbers chars = pick (numbers_refused numbers) (Err Size) (check_of (as_table (numbers_board numbers) chars))

unfoldable pub to_sheet_check : (numbers chars : List ℕ) → Checked
to_sheet_check numbers chars = pick (numbers_refused numbers) (Err Size) (check_of (as_sheet (numbers_board numbers) chars))

-- the numbers afterwards: the moved page in the place of their own; a refusal leaves them
unfoldable pub to_table_numbers : (numbers chars : List ℕ) → List ℕ
to_table_numbers numbers chars = pick (numbers_refused numbers) numbers (page_or_own (as_table (numbers_board numbers) chars) numbers)

unfoldable pub to_sheet_numbers : (numbers chars : List ℕ) → List ℕ
to_sheet_numbers numbers chars = pick (numbers_refused numbers) numbers (page_or_own (as_sheet (numbers_board numbers) chars) numbers)

-- character memory afterwards
unfoldable pub to_table_chars : (numbers chars : List ℕ) → List ℕ
to_table_chars numbers chars = pick (numbers_refused numbers) chars (as_table_left (numbers_board numbers) chars)

-- ---- the calls: the answer, the numbers and character memory afterwards

abbrev pub MovesToTableFor : (numbers chars : List ℕ) → Answer → (numbers_left chars_left : List ℕ) → Type 0
MovesToTableFor numbers chars r numbers_left chars_left =
    (r ≡ answer_of (to_table_check numbers chars)) × (numbers_left ≡ to_table_numbers numbers chars) × (chars_left ≡ to_table_chars numbers chars)

-- [demand untouched]
abbrev pub MovesToSheetFor : (numbers chars : List ℕ) → Answer → (left : List ℕ) → Type 0
MovesToSheetFor numbers chars r left = (r ≡ answer_of (to_sheet_check numbers chars)) × (left ≡ to_sheet_numbers numbers chars)
