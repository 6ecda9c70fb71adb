-- The step for C: its answer in numbers.
use Rattle.std.specs.Prelude.{◌≡◌, ℕ, List}
use Rattle.lists.specs.Choice.{pick}
use Rattle.refusal.specs.Number.{number_of, beside_of}
use Rattle.board.specs.declared.Board.{Board}
use Rattle.shape.specs.Font.{font_of}
use Rattle.step.specs.declared.Stepped.{Stepped}
use Rattle.step.specs.Step.{step_of}
use Rattle.feldrime.specs.declared.StepAnswer.{StepAnswer}
use Rattle.feldrime.specs.declared.StepBy.{StepBy}

-- the refusal's number, the number beside it, the signals as 0 or 1, address and dots
unfoldable pub numbered : Stepped → StepAnswer
numbered s = record {
  refusal = number_of s.refusal;
  beside = beside_of s.refusal;
  hsync = pick s.signals.hsync 1 0;
  vsync = pick s.signals.vsync 1 0;
  blank = pick s.signals.blank 1 0;
  cursor = pick s.signals.cursor 1 0;
  blink = pick s.signals.blink 1 0;
  address = s.address;
  dots = s.dots;
}

-- [dots step]
abbrev pub step_numbers : Board → (chars attrs words flags unshifted shifted groups : List ℕ) → StepBy
step_numbers b chars attrs words flags unshifted shifted groups = record {
  answer = numbered (step_of b chars attrs (font_of words flags unshifted shifted groups));
  board = (step_of b chars attrs (font_of words flags unshifted shifted groups)).board;
}

-- the call that alters the board where it stands: the answer, and the board afterwards
abbrev pub StepsFor : Board → (chars attrs words flags unshifted shifted groups : List ℕ) → StepAnswer → (left : Board) → Type 0
StepsFor b chars attrs words flags unshifted shifted groups r left =
    (r ≡ (step_numbers b chars attrs words flags unshifted shifted groups).answer)
    × (left ≡ (step_numbers b chars attrs words flags unshifted shifted groups).board)
