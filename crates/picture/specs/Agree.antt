-- The picture as the drawer makes it is the picture of `Picture.antt`. Assumes nothing.
use Rattle.std.specs.Prelude.{ℕ, ◌+◌, ◌*◌, ◌/◌, ◌%◌, ◌≤◌, ◌<◌, ◌≡◌, refl, true, false, ltb, length, get_or, is_ok}
use Rattle.std.proofs.Math.Path.{sym, ap}
use Rattle.std.proofs.Common.{◌∙◌, mod-lt, mul_assoc, arith, ltb-false}
use mathlib.Core.List.{List, ◌++◌}
use Rattle.std.proofs.Math.Nat.{mul-le-mul}
use Rattle.std.proofs.Math.Arith.{digits_div, digits_mod}
use Rattle.std.proofs.Math.ListN.{drop}
use Rattle.lists.specs.Join.{joined, same-joined, join-all}
use Rattle.lists.specs.Tab.{tab}
use Rattle.refusal.specs.Number.{unrefused}
use Rattle.raster.specs.declared.Code.{Code}
use Rattle.raster.specs.Wide.{code_of, is_wide}
use Rattle.board.specs.declared.Board.{Board}
use Rattle.board.specs.declared.Page.{Page}
use Rattle.timing.specs.Fields.{scans_of, hact_of, lines_of, rows_of, visible_of}
use Rattle.timing.specs.Laws.{Accepted, call-passed, buffer-bounded, dots-bound, lines-some, lines-le, scans-le, lines-scans, rows-le, hact-le, row-shown, visible-bound}
use Rattle.fetch.specs.Rows.{code_at, row_start, fetch_at}
use Rattle.latch.specs.Held.{held_at}
use Rattle.shape.specs.declared.FontLine.{FontLine}
use Rattle.shape.specs.declared.FontLines.{FontLines}
use Rattle.shape.specs.Font.{Font, font_lines_of, font_line_at, word_by}
use Rattle.shape.specs.Laws.{line_at}
use Rattle.video.specs.Lent.{Lent, lent}
use Rattle.video.specs.At.{Content, lent_check, scan_of, reading_of, scan_dots}
use Rattle.dots.specs.Half.{same-shown}
use Rattle.dots.specs.Stores.{ink_of}
use Rattle.tables.specs.Tables.{mark_of, number_for, cell_by, shown_word, words_at, levels_at}
use Rattle.tables.specs.Marks.{mark-lt}
use Rattle.tables.specs.Laws.{shown-lt, levels-at, levels-few, word-at, word-of, mark-of, by_word}
use Rattle.line.specs.Line.{row_for, code_for, scan_for, line_length}
use Rattle.line.specs.Length.{length-shaped}
use Rattle.line.specs.Walk.{valid_by, content_by, shaped_line, shaped}
use Rattle.picture.specs.declared.Plan.{Plan}
use Rattle.picture.specs.Plan.{plan_of, cell_dots_of, scan_lt, row_line, row_from, row_drawn, TablesFit}
use Rattle.picture.specs.Picture.{picture_dots, picture_length, picture_check, picture_over, pictured_of}

-- ---- a call that is not refused

pub picture-passed : (b : Board) (chars attrs : List ℕ) (f : Font) (room : ℕ) → picture_check b (lent_check chars attrs f) room ≡ unrefused
    → Lent b chars attrs f.words f.flags × (picture_length b.page ≤ room)
unfolding picture_check
picture-passed b chars attrs f room e =
    let short = ltb room (picture_length b.page) in
    (lent b chars attrs f false short e, ltb-false _ _ (call-passed b (lent_check chars attrs f) false short e).roomy)

module _ (b : Board) (chars attrs : List ℕ) (f : Font) (field : ℕ) (out₀ : List ℕ) where
  pub left-pictured : is_ok (picture_check b (lent_check chars attrs f) (length out₀)) ≡ true
      → (out : List ℕ) → out ≡ picture_dots b chars attrs f field ++ drop (picture_length b.page) out₀ → out ≡ pictured_of b chars attrs f field out₀
  unfolding pictured_of
  left-pictured t out e = rw t e

  pub left_alone : is_ok (picture_check b (lent_check chars attrs f) (length out₀)) ≡ false → out₀ ≡ pictured_of b chars attrs f field out₀
  unfolding pictured_of
  left_alone t = rw t

-- a line of a row shows one of its scan lines, whatever the row's code
scan-shown : (p : Page) (k : Code) (s : ℕ) → s < lines_of p → scan_of k (lines_of p) s < scans_of p
scan-shown p k s h = rw (sym (lines-scans p)) (scan_lt k (lines_of p) s h)

pub scan-few : (b : Board) (chars : List ℕ) (line : ℕ) → scan_for b chars line < 16
scan-few b chars line =
    omega (arith, scan-shown b.page (code_for b chars line) (line % lines_of b.page) (mod-lt line (lines-some b.page)), scans-le b.page)

-- ---- the picture from what each scan line takes from the font

module _ (b : Board) (chars attrs words flags : List ℕ) (lines : FontLines) (field : ℕ) where
  abbrev pub shaped_at : (line : ℕ) → List ℕ
  shaped_at line = shaped_line b chars attrs (word_by words flags (font_line_at lines (scan_for b chars line))) line field

  unfoldable pub shaped_picture : List ℕ
  shaped_picture = joined 0 (visible_of b.page).0 shaped_at

  abbrev pub shaped_over : (out : List ℕ) → List ℕ
  shaped_over out = shaped_picture ++ drop (picture_length b.page) out

-- of a font it is the picture
pub shaped-picture : (b : Board) (chars attrs : List ℕ) (f : Font) (field : ℕ)
    → shaped_picture b chars attrs f.words f.flags (font_lines_of f.unshifted f.shifted f.groups) field ≡ picture_dots b chars attrs f field
unfolding shaped_picture picture_dots
shaped-picture b chars attrs f field =
    same-joined 0 (visible_of b.page).0 _ _ (λ line l u.
    ap (λ (x : FontLine). shaped_line b chars attrs (word_by f.words f.flags x) line field) (line_at f.unshifted f.shifted f.groups (scan_for b chars line) (scan-few b chars line))
    ∙ shaped b chars attrs f line field)

-- so what each scan line takes from the font is enough
pub as-picture : (b : Board) (chars attrs : List ℕ) (f : Font) (field : ℕ) (lines : FontLines) (out out₀ : List ℕ) → lines ≡ font_lines_of f.unshifted f.shifted f.groups
    → out ≡ shaped_over b chars attrs f.words f.flags lines field out₀ → out ≡ picture_over b chars attrs f field out₀
as-picture b chars attrs f field lines out out₀ q e =
    (rw q at e) ∙ ap (λ (l : List ℕ). l ++ drop (picture_length b.page) out₀) (shaped-picture b chars attrs f field)

-- ---- the tables that the drawer has made before its first row

pub record Made (b : Board) (words flags : List ℕ) (lines : FontLines) (field : ℕ) (shown looks : List ℕ) : Type 0 where
  pub beyond : List ℕ
  pub shown-is : shown ≡ joined 0 (scans_of b.page) (words_at words flags lines b.page.video.dots.0) ++ beyond
  pub rest : List ℕ
  pub looks-is : looks ≡ joined 0 (scans_of b.page) (levels_at b field) ++ rest

-- ---- a cell, a line, the picture

module _ (b : Board) (chars attrs words flags : List ℕ) (lines : FontLines) (field : ℕ) (shown looks : List ℕ) (page : Accepted b.page) (made : Made b words flags lines field shown looks)
    (bytes : (i : ℕ) → get_or chars i 0 < 256) where
  abbrev d : ℕ
  d = b.page.video.dots.0

  abbrev n : ℕ
  n = lines_of b.page

  same-cell : (s : ℕ) (k : Content) → s < scans_of b.page → k.code < 256 → cell_dots_of shown looks d s (number_for (reading_of b.page) k) ≡ scan_dots b (word_by words flags (font_line_at lines s)) s field k
  unfolding cell_dots_of shown_word
  same-cell s k h l =
      rw (word-at words flags lines d shown made.beyond (scans_of b.page) s (number_for (reading_of b.page) k % 512) made.shown-is h (omega arith), word-of (reading_of b.page) k l words flags (font_line_at lines s) d, mark-of (reading_of b.page) k l)
      (by_word b words flags (font_line_at lines s) s field page k (get_or looks (s * 128 + mark_of k.attributes k.here) 0)
      (levels-at b field looks made.rest (scans_of b.page) s (mark_of k.attributes k.here) made.looks-is h (mark-lt k.attributes k.here)))

  same_line : (r s : ℕ) → s < n
      → row_line (plan_of b.page) (code_of (code_at b.page chars r)) chars attrs shown looks (held_at b.page chars attrs r 0) (row_start b.page chars r) s
      ≡ shaped_at b chars attrs words flags lines field (r * n + s)
  unfolding row_line plan_of cell_by shaped_line fetch_at
  same_line r s h =
      let q : (r * n + s) / n ≡ r = digits_div r h in
      let m : (r * n + s) % n ≡ s = digits_mod r h in
      let k = code_of (code_at b.page chars r) in
      let scan = scan_of k n s in
      rw (q, m)
      (same-joined 0 (hact_of b.page) _ _ (λ c l u.
      same-shown (is_wide k) _ (λ (i : ℕ). scan_dots b (word_by words flags (font_line_at lines scan)) scan field (content_by b.page chars attrs r i)) (hact_of b.page)
      (λ i v. same-cell scan (content_by b.page chars attrs r i) (scan-shown b.page k s h) (shown-lt (reading_of b.page) chars attrs (valid_by b.page chars attrs r i) (fetch_at b.page chars r i) bytes)) c (omega arith)))

  same_row : (r : ℕ) → row_drawn (plan_of b.page) b.page chars attrs shown looks r ≡ joined 0 n (λ (s : ℕ). shaped_at b chars attrs words flags lines field (r * n + s))
  unfolding row_drawn row_from plan_of
  same_row r = same-joined 0 n _ _ (λ s l u. same_line r s (omega arith))

  same-picture : joined 0 (rows_of b.page) (row_drawn (plan_of b.page) b.page chars attrs shown looks) ≡ shaped_picture b chars attrs words flags lines field
  unfolding shaped_picture
  same-picture =
      same-joined 0 (rows_of b.page) _ _ (λ r l u. same_row r)
      ∙ join-all (shaped_at b chars attrs words flags lines field) n (rows_of b.page)

  -- the drawer's own words
  pub pictured : (p : Plan) (out out₀ : List ℕ) → p ≡ plan_of b.page → out ≡ joined 0 p.rows (row_drawn p b.page chars attrs shown looks) ++ drop (p.rows * p.size) out₀
      → out ≡ shaped_over b chars attrs words flags lines field out₀
  unfolding plan_of
  pictured p out out₀ q e =
      let k : rows_of b.page * (n * (hact_of b.page * d)) ≡ picture_length b.page = sym (mul_assoc (rows_of b.page) n (hact_of b.page * d)) in
      (rw q at e)
      ∙ ap (λ (i : ℕ). joined 0 (rows_of b.page) (row_drawn (plan_of b.page) b.page chars attrs shown looks) ++ drop i out₀) k
      ∙ ap (λ (l : List ℕ). l ++ drop (picture_length b.page) out₀) same-picture

-- what the drawer asks of its tables
pub sheet-of : (b : Board) (words flags : List ℕ) (lines : FontLines) (field : ℕ) (shown looks inks : List ℕ) → Accepted b.page → Made b words flags lines field shown looks
    → length shown ≡ 8192 → length looks ≡ 2048 → inks ≡ tab 288 ink_of → (p : Plan) → p ≡ plan_of b.page → TablesFit p shown looks inks
unfolding plan_of
sheet-of b words flags lines field shown looks inks page made ls lk ink p q = rw q (record {
  least = page.least;
  most = page.most;
  some = omega arith;
  few = omega arith;
  short = omega (arith, lines-le b.page);
  tabled = scans-le b.page;
  scanned = scan-shown b.page;
  width_is = refl;
  size_is = refl;
  bounded = buffer-bounded b.page;
  shown-all = ls;
  looks-all = lk;
  looks-few = λ s i h l. rw (levels-at b field looks made.rest _ s i made.looks-is h l) (levels-few b field s i);
  inks-are = ink;
})

-- ---- what the plan has

module _ (p : Plan) (page : Page) (q : p ≡ plan_of page) where
  pub plan-dots : Accepted page → (6 ≤ p.dots.0) × (p.dots.0 ≤ 12)
  unfolding plan_of
  plan-dots a = rw q (a.least, a.most)

  pub plan-scans : p.scans.0 ≤ 16
  unfolding plan_of
  plan-scans = rw q (scans-le page)

  pub plan-rows : p.rows ≤ 128
  unfolding plan_of
  plan-rows = rw q (rows-le page)

  pub plan-size : p.rows * p.size ≡ picture_length page
  unfolding plan_of
  plan-size = rw q (sym (mul_assoc (rows_of page) (lines_of page) (hact_of page * page.video.dots.0)))

  pub plan-visible : p.rows * p.lines.0 * p.width ≡ picture_length page
  unfolding plan_of
  plan-visible = rw q

  pub plan-small : Accepted page → (p.rows * p.size ≤ 6291456) × (p.rows * p.lines.0 ≤ 2048) × (p.rows * p.columns.0 ≤ 32768)
  unfolding plan_of
  plan-small a =
      rw q
      (mul-le-mul (rows-le page) (mul-le-mul (lines-le page) (dots-bound page a)), visible-bound page, mul-le-mul (rows-le page) (hact-le page))

pub made_of : (b : Board) (words flags : List ℕ) (lines : FontLines) (field : ℕ) (shown looks beyond rest : List ℕ) (p : Plan) → p ≡ plan_of b.page
    → shown ≡ joined 0 p.scans.0 (words_at words flags lines p.dots.0) ++ beyond → looks ≡ joined 0 p.scans.0 (levels_at b field) ++ rest
    → Made b words flags lines field shown looks
unfolding plan_of
made_of b words flags lines field shown looks beyond rest p q e1 e2 = record { beyond = beyond; shown-is = rw q at e1; rest = rest; looks-is = rw q at e2 }

-- ---- the picture line by line

module _ (b : Board) (p : Plan) (q : p ≡ plan_of b.page) where
  pub line_row : (l : ℕ) → l < p.rows * p.lines.0 → row_for b l < rows_of b.page
  unfolding plan_of
  line_row l h = row-shown b.page l (rw q at h)

  pub line-room : (part : ℕ) → p.width ≤ part → line_length b ≤ part
  unfolding plan_of
  line-room part w = rw q at w

module _ (b : Board) (chars attrs words flags : List ℕ) (lines : FontLines) (field : ℕ) (p : Plan) (q : p ≡ plan_of b.page) where
  pub line-width : Accepted b.page → (l : ℕ) → length (shaped_at b chars attrs words flags lines field l) ≡ p.width
  unfolding plan_of
  line-width a l = rw q (length-shaped b chars attrs words flags _ l field a)

  pub as-line-at : (l : ℕ) (out part : List ℕ) → out ≡ shaped_at b chars attrs words flags lines field l ++ drop (line_length b) part
      → out ≡ shaped_at b chars attrs words flags lines field l ++ drop p.width part
  unfolding plan_of
  as-line-at l out part e = rw q e

  pub lined : (out out₀ : List ℕ) → out ≡ joined 0 (p.rows * p.lines.0) (shaped_at b chars attrs words flags lines field) ++ drop (p.rows * p.lines.0 * p.width) out₀
      → out ≡ shaped_over b chars attrs words flags lines field out₀
  unfolding plan_of shaped_picture
  lined out out₀ e = rw q at e
