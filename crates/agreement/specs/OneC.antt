-- No second answer meets the contract of a call for C: it names its answer, so each of these is `only`.
use Rattle.std.specs.Prelude.{ℕ, ◌≡◌, List}
use Rattle.lists.specs.Answer.{OneAnswer, only, only-both, only-three, only-four}
use Rattle.board.specs.declared.Board.{Board}
use Rattle.shape.specs.Font.{Font}
use Rattle.numbers.specs.Numbers.{numbers_check}
use Rattle.feldrime.specs.declared.Answer.{Answer}
use Rattle.feldrime.specs.declared.FontAnswer.{FontAnswer}
use Rattle.feldrime.specs.declared.CellsAnswer.{CellsAnswer}
use Rattle.feldrime.specs.declared.StepAnswer.{StepAnswer}
use Rattle.feldrime.specs.Answers.{archive_version, answer_of}
use Rattle.feldrime.specs.Pages.{size_for, run_for, board_for, ReadsPageFor, WritesPageFor, ReadsFontFor, GivesNumbersFor}
use Rattle.feldrime.specs.LineDraw.{DrawsLineFor}
use Rattle.feldrime.specs.PictureDraw.{DrawsPictureFor}
use Rattle.feldrime.specs.RowCells.{GivesCellsFor}
use Rattle.feldrime.specs.Catalogue.{MovesToTableFor, MovesToSheetFor}
use Rattle.records.specs.declared.Phrase.{Phrase}
use Rattle.records.specs.Records.{phrases_differ}
use Rattle.feldrime.specs.Phrases.{phrase_for}
use Rattle.feldrime.specs.Step.{step_numbers, StepsFor}
use Rattle.feldrime.specs.Boards.{set_video_for, write_for, read_for, state_for}

pub version-for-c-one : OneAnswer (λ r. r ≡ archive_version)
version-for-c-one = only _

pub page-check-for-c-one : (numbers : List ℕ) → OneAnswer (λ r. r ≡ answer_of (numbers_check numbers))
page-check-for-c-one numbers = only _

pub page-size-for-c-one : (numbers : List ℕ) → OneAnswer (λ r. r ≡ size_for numbers)
page-size-for-c-one numbers = only _

-- the answer, the numbers and both memories
pub page-read-one : (file numbers chars attrs : List ℕ) → OneAnswer (λ (r : Answer × List ℕ × List ℕ × List ℕ). ReadsPageFor file numbers chars attrs r.0 r.1 r.2 r.3)
page-read-one file numbers chars attrs = only-four _ _ _ _

pub page-write-one : (numbers chars attrs out : List ℕ) → OneAnswer (λ (r : Answer × List ℕ). WritesPageFor numbers chars attrs out r.0 r.1)
page-write-one numbers chars attrs out = only-both _ _

pub font-read-one : (file : List ℕ) (f : Font) → OneAnswer (λ (r : FontAnswer × Font). ReadsFontFor file f r.0 r.1)
font-read-one file f = only-both _ _

pub line-draw-one : (numbers chars attrs : List ℕ) (f : Font) (line field : ℕ) (out : List ℕ) → OneAnswer (λ (r : Answer × List ℕ). DrawsLineFor numbers chars attrs f line field out r.0 r.1)
line-draw-one numbers chars attrs f line field out = only-both _ _

pub picture-draw-one : (numbers chars attrs : List ℕ) (f : Font) (field : ℕ) (out : List ℕ) → OneAnswer (λ (r : Answer × List ℕ). DrawsPictureFor numbers chars attrs f field out r.0 r.1)
picture-draw-one numbers chars attrs f field out = only-both _ _

pub row-run-for-c-one : (numbers chars : List ℕ) (row : ℕ) → OneAnswer (λ r. r ≡ run_for numbers chars row)
row-run-for-c-one numbers chars row = only _

-- the answer and the buffer
pub row-cells-for-c-one : (numbers chars : List ℕ) (row : ℕ) (cells : List ℕ) → OneAnswer (λ (r : CellsAnswer × List ℕ). GivesCellsFor numbers chars row cells r.0 r.1)
row-cells-for-c-one numbers chars row cells = only-both _ _

-- the answer, the numbers and character memory
pub to-table-for-c-one : (numbers chars : List ℕ) → OneAnswer (λ (r : Answer × List ℕ × List ℕ). MovesToTableFor numbers chars r.0 r.1 r.2)
to-table-for-c-one numbers chars = only-three _ _ _

pub to-sheet-for-c-one : (numbers chars : List ℕ) → OneAnswer (λ (r : Answer × List ℕ). MovesToSheetFor numbers chars r.0 r.1)
to-sheet-for-c-one numbers chars = only-both _ _

pub phrase-of-row-for-c-one : (numbers chars : List ℕ) (phrases : List Phrase) (row : ℕ) → OneAnswer (λ r. r ≡ phrase_for numbers chars phrases row)
phrase-of-row-for-c-one numbers chars phrases row = only _

pub phrases-differ-for-c-one : (phrases : List Phrase) → OneAnswer (λ r. r ≡ phrases_differ phrases)
phrases-differ-for-c-one phrases = only _

pub board-of-one : (numbers : List ℕ) → OneAnswer (λ r. r ≡ board_for numbers)
board-of-one numbers = only _

pub numbers-of-for-c-one : (b : Board) (numbers : List ℕ) → OneAnswer (λ (r : Answer × List ℕ). GivesNumbersFor b numbers r.0 r.1)
numbers-of-for-c-one b numbers = only-both _ _

pub set-video-for-c-one : (b : Board) (width strike bkgnd rblank : ℕ) → OneAnswer (λ r. r ≡ set_video_for b width strike bkgnd rblank)
set-video-for-c-one b width strike bkgnd rblank = only _

pub write-for-c-one : (b : Board) (address byte : ℕ) → OneAnswer (λ r. r ≡ write_for b address byte)
write-for-c-one b address byte = only _

pub read-for-c-one : (b : Board) (address : ℕ) → OneAnswer (λ r. r ≡ read_for b address)
read-for-c-one b address = only _

pub state-for-c-one : (b : Board) (chars attrs : List ℕ) (n : ℕ) → OneAnswer (λ r. r ≡ state_for b chars attrs n)
state-for-c-one b chars attrs n = only _

pub step-numbers-one : (b : Board) (chars attrs words flags unshifted shifted groups : List ℕ)
    → OneAnswer (λ r. r ≡ step_numbers b chars attrs words flags unshifted shifted groups)
step-numbers-one b chars attrs words flags unshifted shifted groups = only _

-- the answer and the board
pub step-in-place-one : (b : Board) (chars attrs words flags unshifted shifted groups : List ℕ) → OneAnswer (λ (r : StepAnswer × Board). StepsFor b chars attrs words flags unshifted shifted groups r.0 r.1)
step-in-place-one b chars attrs words flags unshifted shifted groups = only-both _ _
