-- All cells of a row, from a page's numbers.
use Rattle.std.specs.Prelude.{length, ◌≡◌, ℕ, List, Err}
use Rattle.lists.specs.Choice.{pick}
use Rattle.refusal.specs.Number.{check_of}
use Rattle.refusal.specs.declared.Refusal.TheVariants.{Size}
use Rattle.fetch.specs.RowCells.{cells_given, cells_count, cells_put}
use Rattle.feldrime.specs.declared.CellsAnswer.{CellsAnswer}
use Rattle.numbers.specs.Numbers.{numbers_refused, numbers_board}
use Rattle.feldrime.specs.Answers.{cells_answer}

-- 3 for the numbers, then the row's own refusals; how many cells there are
unfoldable pub cells_for : (numbers chars : List ℕ) → (row room : ℕ) → CellsAnswer
cells_for numbers chars row room =
    pick (numbers_refused numbers) (cells_answer (Err Size) 0)
    (cells_answer (check_of (cells_given (numbers_board numbers) chars row room)) (cells_count (numbers_board numbers) chars row room))

-- the buffer afterwards, which stays where the numbers are refused
unfoldable pub cells_put_for : (numbers chars : List ℕ) → ℕ → List ℕ → List ℕ
cells_put_for numbers chars row cells = pick (numbers_refused numbers) cells (cells_put (numbers_board numbers) chars row cells)

-- the call: the answer, and the buffer afterwards
abbrev pub GivesCellsFor : (numbers chars : List ℕ) → (row : ℕ) → (cells : List ℕ) → CellsAnswer → (left : List ℕ) → Type 0
GivesCellsFor numbers chars row cells r left =
    (r ≡ cells_for numbers chars row (length cells)) × (left ≡ cells_put_for numbers chars row cells)
