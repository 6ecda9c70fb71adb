-- 01's listing: the visible lines, one space, the dots in a line; then the lines, black `.`, gray `o`, white `#`; each ends with a line feed.
use Rattle.video.specs.At.{lent_check}
use Rattle.std.specs.Prelude.{◌≡◌, ℕ, ◌+◌, not, List, [], ◌∷◌, ◌++◌, map, length, drop, eqb, ltb, leb, is_ok, Result, Err}
use Rattle.lists.specs.Choice.{pick, first_of}
use Rattle.refusal.specs.declared.Refusal.{Refusal}
use Rattle.refusal.specs.declared.Refusal.TheVariants.{Room}
use Rattle.refusal.specs.Number.{Checked, unrefused, given, value_or}
use Rattle.board.specs.declared.Page.{Page}
use Rattle.board.specs.declared.Board.{Board}
use Rattle.timing.specs.Fields.{visible_of}
use Rattle.timing.specs.Check.{page_check, size_in, call_check}
use Rattle.shape.specs.Font.{Font}
use Rattle.line.specs.Line.{line_dots, line_length}
use Rattle.listing.specs.Decimal.{decimal}

abbrev pub line_feed : ℕ
line_feed = 10

abbrev pub space : ℕ
space = 32

-- black `.`, gray `o`, white `#`
abbrev pub letter_of : ℕ → ℕ
letter_of level = pick (eqb level 0) 46 (pick (eqb level 1) 111 35)

unfoldable pub listing_head : Page → List ℕ
listing_head p = (decimal (size_in p).lines.0 ++ (space ∷ [])) ++ (decimal (size_in p).dots.0 ++ (line_feed ∷ []))

unfoldable pub listing_line : Board → (chars attrs : List ℕ) → Font → (line field : ℕ) → List ℕ
listing_line b chars attrs f line field = map letter_of (line_dots b chars attrs f line field) ++ (line_feed ∷ [])

-- ---- the calls

-- the page's own 12, 4, 13, 14, 15, 6, then 8 for a buffer of room bytes that is too short
unfoldable pub head_check : Page → (room : ℕ) → Checked
head_check p room = first_of ((not (is_ok (page_check p)), page_check p) ∷ (ltb room (length (listing_head p)), Err Room) ∷ []) unrefused

-- as a line is drawn: 3, 12, 4, 13, 14, 15, 6, 7; then 8, where the line feed needs room too
unfoldable pub line_check : Board → (lent : Checked) → (line room : ℕ) → Checked
line_check b lent line room = call_check b lent (leb (visible_of b.page).0 line) (ltb room (line_length b + 1))

-- [case listing] the listing, its printed example, and `refused N`
-- what a call with this check answers, where these are its bytes: how many they are
unfoldable pub listed_of : Checked → List ℕ → Result ℕ Refusal
listed_of r bytes = given r (length bytes)

-- the same, and on a refusal none
abbrev pub listed_count : Checked → List ℕ → ℕ
listed_count r bytes = value_or 0 (listed_of r bytes)

-- the buffer afterwards: bytes beyond those written stay, and all of it on a refusal
unfoldable pub listed_in : Checked → List ℕ → List ℕ → List ℕ
listed_in r bytes out = pick (is_ok r) (bytes ++ drop (length bytes) out) out

-- the answer, and the buffer afterwards
abbrev pub Lists : Checked → (bytes out : List ℕ) → Result ℕ Refusal → (left : List ℕ) → Type 0
Lists check bytes out r left = (r ≡ listed_of check bytes) × (left ≡ listed_in check bytes out)

-- [case listing]
abbrev pub ListsHead : Page → (out : List ℕ) → Result ℕ Refusal → (left : List ℕ) → Type 0
ListsHead p out r left = Lists (head_check p (length out)) (listing_head p) out r left

-- [case listing]
abbrev pub ListsLine : Board → (chars attrs : List ℕ) → Font → (line field : ℕ) → (out : List ℕ) → Result ℕ Refusal → (left : List ℕ) → Type 0
ListsLine b chars attrs f line field out r left =
    Lists (line_check b (lent_check chars attrs f) line (length out)) (listing_line b chars attrs f line field) out r left
