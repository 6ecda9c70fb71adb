-- A picture is its visible lines, end to end.
use Rattle.std.specs.Prelude.{◌≡◌, ℕ, ◌*◌, false, List, ◌++◌, length, drop, ltb, is_ok}
use Rattle.lists.specs.Choice.{pick}
use Rattle.lists.specs.Join.{joined}
use Rattle.refusal.specs.Number.{Checked}
use Rattle.board.specs.declared.Page.{Page}
use Rattle.board.specs.declared.Board.{Board}
use Rattle.timing.specs.Fields.{hact_of, visible_of}
use Rattle.timing.specs.Check.{call_check}
use Rattle.shape.specs.Font.{Font}
use Rattle.video.specs.At.{lent_check}
use Rattle.line.specs.Line.{line_dots}

-- [more picture] the picture is all visible lines, end to end, at the front of the buffer; bytes beyond stay
unfoldable pub picture_dots : Board → (chars attrs : List ℕ) → Font → (field : ℕ) → List ℕ
picture_dots b chars attrs f field = joined 0 (visible_of b.page).0 (λ (line : ℕ). line_dots b chars attrs f line field)

-- the bytes of all visible lines
abbrev pub picture_length : Page → ℕ
picture_length p = (visible_of p).0 * (hact_of p * p.video.dots.0)

-- [more picture]
-- 3, 12, 4, 13, 14, 15, 6, 7, 8 for a buffer of room bytes that is too short
unfoldable pub picture_check : Board → (lent : Checked) → (room : ℕ) → Checked
picture_check b lent room = call_check b lent false (ltb room (picture_length b.page))

-- the picture at the front of a buffer; bytes beyond it stay
abbrev pub picture_over : Board → (chars attrs : List ℕ) → Font → (field : ℕ) → (out : List ℕ) → List ℕ
picture_over b chars attrs f field out = picture_dots b chars attrs f field ++ drop (picture_length b.page) out

-- [more picture]
-- the buffer afterwards, which stays on a refusal
unfoldable pub pictured_of : Board → (chars attrs : List ℕ) → Font → (field : ℕ) → List ℕ → List ℕ
pictured_of b chars attrs f field out =
    pick (is_ok (picture_check b (lent_check chars attrs f) (length out)))
    (picture_over b chars attrs f field out)
    out

-- [demand untouched] [more picture]
-- the call: the refusal, and the buffer afterwards
abbrev pub DrawsPicture : Board → (chars attrs : List ℕ) → Font → (field : ℕ) → (out : List ℕ) → Checked → (left : List ℕ) → Type 0
DrawsPicture b chars attrs f field out r left =
    (r ≡ picture_check b (lent_check chars attrs f) (length out)) × (left ≡ pictured_of b chars attrs f field out)
