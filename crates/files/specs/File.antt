-- 01, "Files": the page file. A file is exactly its size.
use Rattle.std.specs.Prelude.{◌≡◌, ℕ, ◌+◌, ◌*◌, Bool, false, ◌||◌, not, List, [], ◌∷◌, ◌++◌, length, take, drop, eqb, ltb, is_ok, Result, Err}
use Rattle.lists.specs.Choice.{pick, first_of, within}
use Rattle.refusal.specs.declared.Refusal.{Refusal}
use Rattle.refusal.specs.declared.Refusal.TheVariants.{Version, Length, Size}
use Rattle.refusal.specs.Number.{Checked, given, wrong_size}
use Rattle.board.specs.declared.Page.{Page}
use Rattle.board.specs.declared.Board.{Board}
use Rattle.board.specs.Layout.{newest_version, length_field, chars_place, attrs_place, file_size}
use Rattle.board.specs.Modes.{version_of}
use Rattle.board.specs.Range.{memories_refused}
use Rattle.timing.specs.Check.{page_check, call_check}
use Rattle.files.specs.Page.{word_at, version_in, page_at, board_at, long_bytes, page_bytes}

-- four bytes big-endian
unfoldable pub long_at : List ℕ → ℕ → ℕ
long_at bytes i = word_at bytes i * 65536 + word_at bytes (i + 2)

-- [refusal numbers] [R-1 refusals]
-- 1: version byte missing or none of 1 to the newest
abbrev pub version_refused : List ℕ → (newest : ℕ) → Bool
version_refused file newest = not (within 1 newest (version_in file))

-- [refusal numbers]
-- 2: length field or bytes present wrong, where n bytes follow the length
unfoldable pub length_refused : List ℕ → ℕ → Bool
length_refused file n = not (eqb (length file) (n + 5)) || not (eqb (long_at file 1) n)

-- [refusal order]
-- 1, 2, 3 in this order, then the rest; versions from 1 to the newest are known, n bytes follow the length, and size says that a lent part has a wrong size
unfoldable pub file_check : List ℕ → (newest n : ℕ) → (size : Bool) → Checked → Checked
file_check file newest n size rest = first_of ((version_refused file newest, Err Version) ∷ (length_refused file n, Err Length) ∷ (size, Err Size) ∷ []) rest

-- [refusal kinds]
-- 1, 2, 3, then the page's own 12, 4, 13, 14, 15, 6; the version says how many bytes follow the length
unfoldable pub read_check : List ℕ → (size : Bool) → Checked
read_check file size = file_check file newest_version (length_field (version_in file)) size (page_check (page_at file 5))

-- the board of its page
unfoldable pub read_page_of : List ℕ → (size : Bool) → Result Board Refusal
read_page_of file size = given (read_check file size) (board_at file 5)

-- the memories afterwards: those of the file, and on a refusal as they were
unfoldable pub chars_read : List ℕ → (size : Bool) → List ℕ → List ℕ
chars_read file size chars = pick (is_ok (read_check file size)) (take 16384 (drop (chars_place (version_in file)) file)) chars

unfoldable pub attrs_read : List ℕ → (size : Bool) → List ℕ → List ℕ
attrs_read file size attrs = pick (is_ok (read_check file size)) (take 16384 (drop (attrs_place (version_in file)) file)) attrs

-- ---- writing

-- [R-1 version]
-- the version, the length in four bytes
abbrev pub page_head : Page → List ℕ
page_head p = version_of p ∷ long_bytes (length_field p.version)

-- what stands before the memories
unfoldable pub head_of : Page → List ℕ
head_of p = page_head p ++ page_bytes p

-- [file page]
-- a page's file
unfoldable pub file_of : Page → (chars attrs : List ℕ) → List ℕ
file_of p chars attrs = head_of p ++ (chars ++ attrs)

-- [refusal kinds]
-- 3, the page's own 12, 4, 13, 14, 15, 6, then 7 for the state
unfoldable pub write_check : Board → (chars attrs out : ℕ) → Checked
write_check b chars attrs out = call_check b (wrong_size (memories_refused chars attrs || ltb out (file_size b.page.version))) false false

-- [file beyond] bytes beyond a written file stay
-- the buffer afterwards: the file, and what stood beyond it; on a refusal as it was
unfoldable pub written : Board → (chars attrs out : List ℕ) → List ℕ
written b chars attrs out =
    pick (is_ok (write_check b (length chars) (length attrs) (length out))) (file_of b.page chars attrs ++ drop (file_size b.page.version) out) out

-- ---- the calls: what is answered, and the lent buffers afterwards

-- [demand untouched]
abbrev pub ReadsPage : (file chars attrs : List ℕ) → Result Board Refusal → (chars_left attrs_left : List ℕ) → Type 0
ReadsPage file chars attrs r chars_left attrs_left =
    (r ≡ read_page_of file (memories_refused (length chars) (length attrs)))
    × (chars_left ≡ chars_read file (memories_refused (length chars) (length attrs)) chars)
    × (attrs_left ≡ attrs_read file (memories_refused (length chars) (length attrs)) attrs)

-- [demand untouched]
abbrev pub WritesPage : Board → (chars attrs out : List ℕ) → Checked → (left : List ℕ) → Type 0
WritesPage b chars attrs out r left =
    (r ≡ write_check b (length chars) (length attrs) (length out)) × (left ≡ written b chars attrs out)
