-- A whole line, drawn from a page's numbers.
use Rattle.feldrime.specs.Answers.{answer_of}
use Rattle.feldrime.specs.declared.Answer.{Answer}
use Rattle.std.specs.Prelude.{length, ◌≡◌, ℕ, List, Err}
use Rattle.lists.specs.Choice.{pick}
use Rattle.refusal.specs.Number.{Checked}
use Rattle.refusal.specs.declared.Refusal.TheVariants.{Size}
use Rattle.shape.specs.Font.{Font}
use Rattle.video.specs.At.{lent_check}
use Rattle.line.specs.Line.{draw_check, drawn_of}
use Rattle.numbers.specs.Numbers.{numbers_refused, numbers_board}

-- 3 for the numbers, then the line's own refusals
unfoldable pub line_draw_check : (numbers chars attrs : List ℕ) → Font → (line room : ℕ) → Checked
line_draw_check numbers chars attrs f line room =
    pick (numbers_refused numbers) (Err Size) (draw_check (numbers_board numbers) (lent_check chars attrs f) line room)

-- the buffer afterwards, which stays where the numbers are refused
unfoldable pub line_drawn : (numbers chars attrs : List ℕ) → Font → (line field : ℕ) → List ℕ → List ℕ
line_drawn numbers chars attrs f line field out =
    pick (numbers_refused numbers) out (drawn_of (numbers_board numbers) chars attrs f line field out)

-- the call: the answer, and the buffer afterwards
abbrev pub DrawsLineFor : (numbers chars attrs : List ℕ) → Font → (line field : ℕ) → (out : List ℕ) → Answer → (left : List ℕ) → Type 0
DrawsLineFor numbers chars attrs f line field out r left =
    (r ≡ answer_of (line_draw_check numbers chars attrs f line (length out))) × (left ≡ line_drawn numbers chars attrs f line field out)
