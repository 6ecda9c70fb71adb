-- What a call for C answers: the refusal's number, the number beside it, and the results.
use Rattle.std.specs.Prelude.{ℕ, Result}
use Rattle.refusal.specs.declared.Refusal.{Refusal}
use Rattle.refusal.specs.Number.{Checked, check_of, value_or, number_of, beside_of}
use Rattle.board.specs.declared.Board.{Board}
use Rattle.feldrime.specs.declared.Answer.{Answer}
use Rattle.feldrime.specs.declared.SizeAnswer.{SizeAnswer}
use Rattle.feldrime.specs.declared.FontAnswer.{FontAnswer}
use Rattle.feldrime.specs.declared.RunAnswer.{RunAnswer}
use Rattle.feldrime.specs.declared.CellsAnswer.{CellsAnswer}
use Rattle.feldrime.specs.declared.BoardAnswer.{BoardAnswer}
use Rattle.feldrime.specs.declared.ByteAnswer.{ByteAnswer}

-- FELDRIME_VERSION of the header that this archive belongs to
abbrev pub archive_version : ℕ
archive_version = 8

abbrev pub answer_of : Checked → Answer
answer_of r = record { refusal = number_of r; beside = beside_of r }

abbrev pub size_answer : Checked → (lines dots : ℕ) → SizeAnswer
size_answer r l d = record { refusal = number_of r; beside = beside_of r; lines = l; dots = d }

abbrev pub font_answer : Checked → (groups : ℕ) → FontAnswer
font_answer r n = record { refusal = number_of r; beside = beside_of r; groups = n }

abbrev pub run_answer : Checked → (first count : ℕ) → RunAnswer
run_answer r f n = record { refusal = number_of r; beside = beside_of r; first = f; count = n }

abbrev pub cells_answer : Checked → ℕ → CellsAnswer
cells_answer r n = record { refusal = number_of r; beside = beside_of r; count = n }

abbrev pub board_answer : Checked → Board → BoardAnswer
board_answer r b = record { refusal = number_of r; beside = beside_of r; board = b }

-- of a call that gives a board or is refused: its board, or another in its place
abbrev pub board_given : Result Board Refusal → (other : Board) → BoardAnswer
board_given given other = board_answer (check_of given) (value_or other given)

abbrev pub byte_answer : Checked → ℕ → ByteAnswer
byte_answer r v = record { refusal = number_of r; beside = beside_of r; byte = v }
