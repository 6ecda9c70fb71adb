-- 01, "Files": the font file.
use Rattle.std.specs.Prelude.{◌≡◌, ℕ, ◌+◌, ◌*◌, ◌/◌, ◌%◌, Bool, ◌&&◌, ◌||◌, List, ◌∷◌, ◌++◌, length, get_or, take, drop, eqb, ltb, is_ok, Err}
use Rattle.lists.specs.Choice.{pick}
use Rattle.lists.specs.Tab.{tab}
use Rattle.refusal.specs.declared.Refusal.TheVariants.{Size}
use Rattle.refusal.specs.Number.{Checked}
use Rattle.shape.specs.Font.{Font, font_of, font_refused, groups_check}
use Rattle.files.specs.Page.{word_at, version_in, long_bytes}
use Rattle.files.specs.File.{file_check}

-- n words big-endian
abbrev pub words_of : ℕ → List ℕ → List ℕ
words_of n bytes = tab n (λ i. word_at bytes (2 * i))

-- byte k of words big-endian
unfoldable pub byte_of : List ℕ → ℕ → ℕ
byte_of words k = pick (eqb (k % 2) 0) (get_or words (k / 2) 0 / 256) (get_or words (k / 2) 0 % 256)

-- the bytes of 1,152 words
abbrev pub bytes_in : List ℕ → List ℕ
bytes_in words = tab 2304 (byte_of words)

-- [R-7 font] font file version 2 adds sixteen group numbers
abbrev pub group_count : (version : ℕ) → ℕ
group_count version = pick (eqb version 2) 16 0

-- how many bytes follow the length: 1,152 words, 128 flags, two lists of nine, the groups; and the file's size
abbrev pub font_length : (version : ℕ) → ℕ
font_length version = 2304 + 128 + 9 + 9 + group_count version

abbrev pub font_size : (version : ℕ) → ℕ
font_size version = font_length version + 5

-- the groups of a file
abbrev pub file_groups : List ℕ → List ℕ
file_groups file = take (group_count (version_in file)) (drop 2455 file)

-- 3: a lent part of wrong size, or no room for the groups
abbrev pub font_short : List ℕ → Font → Bool
font_short file f = font_refused f || (eqb (version_in file) 2 && eqb (length f.groups) 0)

-- [R-7 refusals]
-- 1, 2, 3, then 12 for a group above 4; versions 1 and 2 are known, and size says that a lent part has a wrong size
unfoldable pub font_check : List ℕ → (size : Bool) → Checked
font_check file size = file_check file 2 (font_length (version_in file)) size (groups_check (file_groups file))

-- [file font] the font file, byte by byte
-- 1,152 words, 128 flags, unshifted list, shifted list, groups; a file without groups leaves those that were lent
unfoldable pub font_in : List ℕ → (lent : List ℕ) → Font
font_in file lent =
    font_of (words_of 1152 (take 2304 (drop 5 file))) (take 128 (drop 2309 file)) (take 9 (drop 2437 file)) (take 9 (drop 2446 file))
    (pick (eqb (version_in file) 2) (file_groups file) lent)

-- the font afterwards: the file's, and on a refusal as it was
unfoldable pub font_read : List ℕ → Font → Font
font_read file f = pick (is_ok (font_check file (font_short file f))) (font_in file f.groups) f

-- ---- writing

-- a font with groups is of version 2
abbrev pub font_version : Font → ℕ
font_version f = pick (eqb (length f.groups) 0) 1 2

-- the version, and the length in four bytes
abbrev pub font_head : (version : ℕ) → List ℕ
font_head version = version ∷ long_bytes (font_length version)

-- [file font]
-- then words, flags, unshifted list, shifted list, groups
unfoldable pub font_file_of : Font → List ℕ
font_file_of f = font_head (font_version f) ++ (bytes_in f.words ++ (f.flags ++ (f.unshifted ++ (f.shifted ++ f.groups))))

-- 3: a font part of wrong size, or room for less than the file; then 12 for a group above 4
unfoldable pub font_write_check : Font → (out : ℕ) → Checked
font_write_check f out = pick (font_refused f || ltb out (font_size (font_version f))) (Err Size) (groups_check f.groups)

-- [file beyond]
-- the buffer afterwards: the file, and what stood beyond it; on a refusal as it was
unfoldable pub font_written : Font → List ℕ → List ℕ
font_written f out = pick (is_ok (font_write_check f (length out))) (font_file_of f ++ drop (font_size (font_version f)) out) out

-- the font of a file that was read: as many of the groups that were lent as the file has
abbrev pub file_font : List ℕ → Font → Font
file_font file left = font_of left.words left.flags left.unshifted left.shifted (take (group_count (version_in file)) left.groups)

-- ---- the calls: the refusal, and what was lent afterwards

-- [demand untouched]
abbrev pub ReadsFont : (file : List ℕ) → Font → Checked → (left : Font) → Type 0
ReadsFont file f r left = (r ≡ font_check file (font_short file f)) × (left ≡ font_read file f)

-- [demand untouched]
abbrev pub WritesFont : Font → (out : List ℕ) → Checked → (left : List ℕ) → Type 0
WritesFont f out r left = (r ≡ font_write_check f (length out)) × (left ≡ font_written f out)
