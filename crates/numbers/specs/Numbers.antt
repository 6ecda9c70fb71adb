-- A page's numbers in one buffer: the version byte, then the bytes of that version's page file between the length and the character memory, then zeros, which are ignored.
use Rattle.std.specs.Prelude.{◌≡◌, ℕ, ◌+◌, ◌-◌, Bool, ◌||◌, not, List, ◌∷◌, ◌++◌, length, take, drop, replicate, eqb, is_ok, Result, Ok, Err}
use Rattle.lists.specs.Choice.{pick}
use Rattle.refusal.specs.declared.Refusal.{Refusal}
use Rattle.refusal.specs.declared.Refusal.TheVariants.{Size}
use Rattle.refusal.specs.Number.{Checked}
use Rattle.board.specs.declared.Page.{Page}
use Rattle.board.specs.declared.Board.{Board}
use Rattle.board.specs.Layout.{newest_version, page_length}
use Rattle.board.specs.Modes.{version_of}
use Rattle.timing.specs.Check.{page_check}
use Rattle.files.specs.Page.{version_in, page_at, board_at, page_bytes}
use Rattle.files.specs.File.{version_refused}

-- 3: another size than 32 bytes, or a version that pages do not know
unfoldable pub numbers_refused : List ℕ → Bool
numbers_refused numbers = not (eqb (length numbers) 32) || version_refused numbers newest_version

-- 3 for the numbers, then the page's own 12, 4, 13, 14, 15, 6
unfoldable pub numbers_check : List ℕ → Checked
numbers_check numbers = pick (numbers_refused numbers) (Err Size) (page_check (page_at numbers 1))

-- their page, on an active board at clock 0
abbrev pub numbers_board : List ℕ → Board
numbers_board numbers = board_at numbers 1

-- how many of the numbers count: the version and the page's bytes
abbrev pub counted : (version : ℕ) → ℕ
counted version = 1 + page_length version

-- the others, which are ignored, as they are given
abbrev pub zeros_after : (version : ℕ) → List ℕ
zeros_after version = replicate (32 - counted version) 0

-- the numbers of a version and a page's bytes, with what stands behind them
abbrev pub numbers_front : (version : ℕ) → (page rest : List ℕ) → List ℕ
numbers_front version page rest = version ∷ (page ++ rest)

-- those of a page file
abbrev pub numbers_in : List ℕ → List ℕ
numbers_in file = numbers_front (version_in file) (take (page_length (version_in file)) (drop 5 file)) (zeros_after (version_in file))

-- [more numbers]
-- those of a page: its version, its IRs, screen start 1, cursor and screen start 2 high byte first, switches, dots, strike line, in version 3 the chip, zeros
abbrev pub page_numbers : Page → List ℕ
page_numbers p = numbers_front (version_of p) (page_bytes p) (zeros_after p.version)

-- numbers with a page in the place of their own; the bytes that are ignored stay
abbrev pub page_in : Page → List ℕ → List ℕ
page_in p numbers = numbers_front (version_of p) (page_bytes p) (drop (counted p.version) numbers)

-- the numbers that count, and zeros
abbrev pub cleared : List ℕ → List ℕ
cleared numbers = take (counted (version_in numbers)) numbers ++ zeros_after (version_in numbers)

-- the page of a board that was not refused
abbrev pub page_or_own : Result Board Refusal → List ℕ → List ℕ
page_or_own (Ok b) numbers = page_in b.page numbers
page_or_own (Err why) numbers = numbers

-- ---- a board's page as numbers

-- [more numbers]
-- 3 where there is room for another number than 32, then the page's own 12, 4, 13, 14, 15, 6; the board's place is not judged
unfoldable pub numbers_of_check : Board → (room : ℕ) → Checked
numbers_of_check b room = pick (not (eqb room 32)) (Err Size) (page_check b.page)

-- [more numbers] a board's page as numbers, and back
-- the numbers afterwards: the page's, and on a refusal as they were
unfoldable pub numbers_of : Board → List ℕ → List ℕ
numbers_of b numbers = pick (is_ok (numbers_of_check b (length numbers))) (page_numbers b.page) numbers

-- [demand untouched] [more numbers]
-- the call: the refusal, and the numbers afterwards
abbrev pub GivesNumbers : Board → (numbers : List ℕ) → Checked → (left : List ℕ) → Type 0
GivesNumbers b numbers r left = (r ≡ numbers_of_check b (length numbers)) × (left ≡ numbers_of b numbers)
