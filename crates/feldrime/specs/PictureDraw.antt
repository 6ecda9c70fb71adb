-- A whole picture, drawn from a page's numbers.
use Rattle.feldrime.specs.Answers.{answer_of}
use Rattle.feldrime.specs.declared.Answer.{Answer}
use Rattle.std.specs.Prelude.{length, ◌≡◌, ℕ, List, Err}
use Rattle.lists.specs.Choice.{pick}
use Rattle.refusal.specs.Number.{Checked}
use Rattle.refusal.specs.declared.Refusal.TheVariants.{Size}
use Rattle.shape.specs.Font.{Font}
use Rattle.video.specs.At.{lent_check}
use Rattle.picture.specs.Picture.{picture_check, pictured_of}
use Rattle.numbers.specs.Numbers.{numbers_refused, numbers_board}

-- 3 for the numbers, then the picture's own refusals
unfoldable pub picture_draw_check : (numbers chars attrs : List ℕ) → Font → (room : ℕ) → Checked
picture_draw_check numbers chars attrs f room =
    pick (numbers_refused numbers) (Err Size) (picture_check (numbers_board numbers) (lent_check chars attrs f) room)

-- the buffer afterwards, which stays where the numbers are refused
unfoldable pub picture_drawn : (numbers chars attrs : List ℕ) → Font → (field : ℕ) → List ℕ → List ℕ
picture_drawn numbers chars attrs f field out =
    pick (numbers_refused numbers) out (pictured_of (numbers_board numbers) chars attrs f field out)

-- the call: the answer, and the buffer afterwards
abbrev pub DrawsPictureFor : (numbers chars attrs : List ℕ) → Font → (field : ℕ) → (out : List ℕ) → Answer → (left : List ℕ) → Type 0
DrawsPictureFor numbers chars attrs f field out r left =
    (r ≡ answer_of (picture_draw_check numbers chars attrs f (length out))) × (left ≡ picture_drawn numbers chars attrs f field out)
