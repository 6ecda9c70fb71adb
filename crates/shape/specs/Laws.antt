-- What callers use of a font: which parts were passed, and that a word has ten bits. Assumes nothing.
use Rattle.std.specs.Prelude.{ℕ, ◌+◌, ◌*◌, ◌/◌, ◌%◌, ◌<◌, ◌≡◌, refl, Bool, true, false, ◌&&◌, ◌||◌, not, List, length, get_or, eqb, ltb}
use Rattle.std.proofs.Common.{true≢false, arith, eqb-true}
use Rattle.std.proofs.lemmas.Bool.{not-false}
use Rattle.std.proofs.lemmas.List.FromFn.{get_or-map-range_with_len}
use Rattle.lists.specs.Choice.{pick, neither, pick-lt}
use Rattle.shape.specs.declared.FontLine.{FontLine}
use Rattle.shape.specs.Font.{Font, Whole, font_refused, pair_of, graphics_word, font_line_of, font_line_in, font_lines_of, font_line_at, chosen_by, font_word, word_by, word_of}

pub font-whole : (f : Font) → font_refused f ≡ false → Whole f
font-whole f e =
    let w = not (eqb (length f.words) 1152) in
    let g = not (eqb (length f.flags) 128) in
    let u = not (eqb (length f.unshifted) 9) in
    let s = not (eqb (length f.shifted) 9) in
    let d = neither (w || g || u || s) (not (eqb (length f.groups) 0) && not (eqb (length f.groups) 16)) e in
    let c = neither (w || g || u) s d.0 in
    let b = neither (w || g) u c.0 in
    let a = neither w g b.0 in
    record {
      words-all = eqb-true _ _ (not-false _ a.0);
      flags-all = eqb-true _ _ (not-false _ a.1);
      unshifted-all = eqb-true _ _ (not-false _ b.1);
      shifted-all = eqb-true _ _ (not-false _ c.1);
      groups-all = either (eqb (length f.groups) 0) (eqb (length f.groups) 16) d.1;
    }
  where
    either : (x y : Bool) → (not x && not y) ≡ false → (x || y) ≡ true
    either true y n = refl
    either false true n = refl
    either false false n = absurd (true≢false n)

word_small : (words : List ℕ) (m p : ℕ) → font_word words m p < 1024
unfolding font_word
word_small words m p = pick-lt 1024 (ltb p 9) (get_or words (m * 9 + p) 0 % 1024) 0 (omega arith) (omega arith)

-- a pair is of two bits
pub pair_lt : (group code : ℕ) → pair_of group code < 4
pair_lt group code =
    pick-lt 4 (eqb group 1) _ _ (omega arith)
    (pick-lt 4 (eqb group 2) _ _ (omega arith) (pick-lt 4 (eqb group 3) _ _ (omega arith) (pick-lt 4 (eqb group 4) _ _ (omega arith) (omega arith))))

-- the same pair, of a code moved up by four for each group that follows
abbrev pub weight_of : (group : ℕ) → ℕ
weight_of group = pick (eqb group 1) 64 (pick (eqb group 2) 16 (pick (eqb group 3) 4 (pick (eqb group 4) 1 0)))

pub pair-weighed : (group code : ℕ) → code * weight_of group / 64 % 4 ≡ pair_of group code
pair-weighed group code = go (eqb group 1) (eqb group 2) (eqb group 3) (eqb group 4)
  where
    go : (a b c d : Bool) → code * pick a 64 (pick b 16 (pick c 4 (pick d 1 0))) / 64 % 4
        ≡ pick a (code % 4) (pick b (code / 4 % 4) (pick c (code / 16 % 4) (pick d (code / 64 % 4) 0)))
    go true b c d = omega arith
    go false true c d = omega arith
    go false false true d = omega arith
    go false false false true = omega arith
    go false false false false = omega arith

pub weighed-small : (group code : ℕ) → code < 256 → code * weight_of group < 65536
weighed-small group code h = go (eqb group 1) (eqb group 2) (eqb group 3) (eqb group 4)
  where
    go : (a b c d : Bool) → code * pick a 64 (pick b 16 (pick c 4 (pick d 1 0))) < 65536
    go true b c d = omega arith
    go false true c d = omega arith
    go false false true d = omega arith
    go false false false true = omega arith
    go false false false false = omega arith

pub graphics-small : (group code : ℕ) → graphics_word group code < 1024
unfolding graphics_word
graphics-small group code = omega (arith, pair_lt group code)

pub by-small : (words flags : List ℕ) (line : FontLine) (graphics : Bool) (code : ℕ) → word_by words flags line graphics code < 1024
unfolding word_by
by-small words flags line graphics code =
    pick-lt 1024 graphics _ _ (graphics-small line.group code)
    (pick-lt 1024 (ltb code 128) 0 _ (omega arith)
    (word_small words (code % 128) (chosen_by (get_or flags (code % 128) 0) line)))

pub word-of-small : (f : Font) (scan : ℕ) (graphics : Bool) (code : ℕ) → word_of f scan graphics code < 1024
unfolding word_of
word-of-small f scan graphics code = by-small f.words f.flags (font_line_in f scan) graphics code

-- one line of the sixteen is that line
pub line_at : (unshifted shifted groups : List ℕ) (scan : ℕ) → scan < 16
    → font_line_at (font_lines_of unshifted shifted groups) scan ≡ font_line_of unshifted shifted groups scan
unfolding font_line_at font_lines_of
line_at unshifted shifted groups scan h = get_or-map-range_with_len (font_line_of unshifted shifted groups) 0 16 scan scan _ h (omega arith)
