-- The calls that take a board.
use Rattle.std.specs.Prelude.{ℕ, not, List, eqb}
use Rattle.units.specs.Units.{dots}
use Rattle.refusal.specs.Number.{check_of, value_or}
use Rattle.board.specs.declared.Board.{Board}
use Rattle.registers.specs.Write.{write_of}
use Rattle.registers.specs.Read.{read_of}
use Rattle.registers.specs.Video.{set_video_of}
use Rattle.place.specs.State.{state_of}
use Rattle.feldrime.specs.declared.BoardAnswer.{BoardAnswer}
use Rattle.feldrime.specs.declared.ByteAnswer.{ByteAnswer}
use Rattle.feldrime.specs.Answers.{board_given, byte_answer}

-- any number but 0 is on
abbrev pub set_video_for : Board → (width strike bkgnd rblank : ℕ) → BoardAnswer
set_video_for b width strike bkgnd rblank = board_given (set_video_of b (dots width) strike (not (eqb bkgnd 0)) (not (eqb rblank 0))) b

abbrev pub write_for : Board → (address byte : ℕ) → BoardAnswer
write_for b address byte = board_given (write_of b address byte) b

abbrev pub read_for : Board → (address : ℕ) → ByteAnswer
read_for b address = byte_answer (check_of (read_of b address)) (value_or 0 (read_of b address))

abbrev pub state_for : Board → (chars attrs : List ℕ) → (n : ℕ) → BoardAnswer
state_for b chars attrs n = board_given (state_of b chars attrs n) b
