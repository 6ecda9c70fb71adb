-- 01, "From cell to dots", the character (002): which font word a code shows on a scan line.
use Rattle.std.specs.Prelude.{ℕ, suc, ◌+◌, ◌*◌, ◌/◌, ◌%◌, ◌≡◌, Bool, true, false, ◌&&◌, ◌||◌, not, List, [], ◌∷◌, length, get_or, map, eqb, ltb, Err}
use Rattle.std.specs.List.{range_with_len}
use Rattle.std.specs.Borrow.{Bor, MutBor}
use denote.Triple.Both.{Both}
use Rattle.lists.specs.Choice.{pick}
use Rattle.refusal.specs.Number.{Checked, unrefused}
use Rattle.refusal.specs.declared.Refusal.TheVariants.{Address}
use Rattle.shape.specs.declared.FontLine.{FontLine}
use Rattle.shape.specs.declared.FontLines.{FontLines}

-- 128 characters by nine words, a shift flag for each character, two lists of nine line numbers, and no groups or sixteen
pub record Font : Type 0 where
  pub words : List ℕ
  pub flags : List ℕ
  pub unshifted : List ℕ
  pub shifted : List ℕ
  pub groups : List ℕ

abbrev pub font_of : List ℕ → List ℕ → List ℕ → List ℕ → List ℕ → Font
font_of words flags unshifted shifted groups = record { words = words; flags = flags; unshifted = unshifted; shifted = shifted; groups = groups }

-- for a contract, over the names of the five lent parts: the font where a call is made (in a requires), as it was lent, and as it is left
abbrev pub font_now : (words flags unshifted shifted groups : Bor (List ℕ)) → Font
font_now w f u s g = font_of w.now f.now u.now s.now g.now

abbrev pub lent_font : {A B C D E : Type 0} → Both (Bor (List ℕ)) A → Both (Bor (List ℕ)) B → Both (Bor (List ℕ)) C → Both (Bor (List ℕ)) D → Both (Bor (List ℕ)) E → Font
lent_font w f u s g = font_now w.entry f.entry u.entry s.entry g.entry

-- the same for five parts that are lent to be written: the font as it was lent, and as it is left
abbrev pub font_to_fill : {A B C D E : Type 0} → Both (MutBor (List ℕ)) A → Both (MutBor (List ℕ)) B → Both (MutBor (List ℕ)) C → Both (MutBor (List ℕ)) D → Both (MutBor (List ℕ)) E → Font
font_to_fill w f u s g = font_of w.entry.now f.entry.now u.entry.now s.entry.now g.entry.now

abbrev pub left_font : {A B C D E : Type 0} → Both A (MutBor (List ℕ)) → Both B (MutBor (List ℕ)) → Both C (MutBor (List ℕ)) → Both D (MutBor (List ℕ)) → Both E (MutBor (List ℕ)) → Font
left_font w f u s g = font_of w.exit.now f.exit.now u.exit.now s.exit.now g.exit.now

pub record Whole (f : Font) : Type 0 where
  pub words-all : length f.words ≡ 1152
  pub flags-all : length f.flags ≡ 128
  pub unshifted-all : length f.unshifted ≡ 9
  pub shifted-all : length f.shifted ≡ 9
  pub groups-all : (eqb (length f.groups) 0 || eqb (length f.groups) 16) ≡ true

-- [board font]
-- 3: a font part of wrong size
abbrev pub font_refused : Font → Bool
font_refused f =
    not (eqb (length f.words) 1152) || not (eqb (length f.flags) 128) || not (eqb (length f.unshifted) 9)
    || not (eqb (length f.shifted) 9) || (not (eqb (length f.groups) 0) && not (eqb (length f.groups) 16))

-- [R-7 refusals]
-- 12: a group above 4
unfoldable pub groups_refused : List ℕ → Bool
groups_refused [] = false
groups_refused (g ∷ gs) = ltb 4 g || groups_refused gs

abbrev pub groups_check : List ℕ → Checked
groups_check groups = pick (groups_refused groups) (Err Address) unrefused

-- [board font]
-- the first position in a list that equals the scan line (low four bits count), or the list's length where none does
unfoldable pub position_of : List ℕ → ℕ → ℕ
position_of [] scan = 0
position_of (x ∷ xs) scan = pick (eqb (x % 16) scan) 0 (suc (position_of xs scan))

-- [R-7 groups] font file version 2 adds sixteen group numbers, 0 for none; a version 1 font has no groups
-- the group of a scan line
abbrev pub group_in : List ℕ → (scan : ℕ) → ℕ
group_in groups scan = get_or groups scan 0

-- what a scan line takes from a font: where it stands in each of the two lists, and its group
unfoldable pub font_line_of : (unshifted shifted groups : List ℕ) → (scan : ℕ) → FontLine
font_line_of unshifted shifted groups scan = record {
  unshifted = position_of unshifted scan;
  shifted = position_of shifted scan;
  group = group_in groups scan;
}

abbrev pub font_line_in : Font → (scan : ℕ) → FontLine
font_line_in f scan = font_line_of f.unshifted f.shifted f.groups scan

-- the same for each of the sixteen scan lines, and one of them
unfoldable pub font_lines_of : (unshifted shifted groups : List ℕ) → FontLines
font_lines_of unshifted shifted groups = record { each = map (font_line_of unshifted shifted groups) (range_with_len 0 16) }

unfoldable pub font_line_at : FontLines → (scan : ℕ) → FontLine
font_line_at lines scan = get_or lines.each scan (record { unshifted = 0; shifted = 0; group = 0 })

-- a shift flag that is not 0 is shifted, and chooses the shifted list
abbrev pub chosen_by : (flag : ℕ) → FontLine → ℕ
chosen_by flag line = pick (eqb flag 0) line.unshifted line.shifted

-- [board font] the font: words of which ten bits count, shift flags, two lists of which four bits count
-- the font word of a character at a position of nine (low ten bits count); zeros past the nine
unfoldable pub font_word : List ℕ → ℕ → ℕ → ℕ
font_word words character position = pick (ltb position 9) (get_or words (character * 9 + position) 0 % 1024) 0

-- [R-7 pairs] 1 to 4 for the pairs CA0/CA1 up to CA6/CA7
-- the two bits of the code that a group puts out
abbrev pub pair_of : (group code : ℕ) → ℕ
pair_of group code =
    pick (eqb group 1) (code % 4) (pick (eqb group 2) (code / 4 % 4) (pick (eqb group 3) (code / 16 % 4) (pick (eqb group 4) (code / 64 % 4) 0)))

-- [R-7 dots] in graphics mode dots 0 to 4 are one bit of the code and dots 5 to 9 its neighbour, by line group
-- 002: the even bit of the pair on D0 thru D4, the odd one on D5 thru D9
unfoldable pub graphics_word : (group code : ℕ) → ℕ
graphics_word group code = 31 * (pair_of group code % 2) + 992 * (pair_of group code / 2)

-- [dots shape] CA7 = 0 gives zeros; else the flag chooses a list, and the first position of the scan line gives the word
-- in graphics mode the word of the line's group; else CA7 = 0 gives zeros, and the position in the list that the character's flag chooses the font word
unfoldable pub word_by : (words flags : List ℕ) → FontLine → (graphics : Bool) → (code : ℕ) → ℕ
word_by words flags line graphics code =
    pick graphics (graphics_word line.group code)
    (pick (ltb code 128) 0 (font_word words (code % 128) (chosen_by (get_or flags (code % 128) 0) line)))

-- [dots shape]
-- [R-7 mode] the shape lookup answers for a code, a line and a mode
-- the word that a scan line shows of a code, in graphics mode or not
unfoldable pub word_of : Font → (scan : ℕ) → (graphics : Bool) → (code : ℕ) → ℕ
word_of f scan graphics code = word_by f.words f.flags (font_line_in f scan) graphics code
