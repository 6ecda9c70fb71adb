-- The line as the drawer makes it, from the row's cells and the levels of their marks, and that this is the line of `Line.antt`. Assumes nothing.
use Prim.Native.Nat.{ℕ, zero, suc, min, ◌+◌, ◌*◌, ◌/◌, ◌%◌, ◌≤◌, ◌<◌}
use Rattle.std.specs.Prelude.{◌≡◌, Bool, ◌&&◌, ◌||◌, not, length, get_or, eqb, leb, is_ok, Err}
use Rattle.std.proofs.Math.Path.{refl, ap}
use Rattle.std.proofs.Common.{sym, ◌∙◌, true≢false, leb-false, ltb-false, le-ltb, eq-eqb, ne_eqb}
use Rattle.std.proofs.Math.Bool.{true, false}
use mathlib.Core.List.{List, [], ◌∷◌, ◌++◌}
use Rattle.std.proofs.Math.Decide.{ℕ_discrete}
use native.Mathlib.Omega.{arith}
use Rattle.std.proofs.Math.ListN.{drop}
use Rattle.std.proofs.Math.Dec.{ltb}
use Rattle.units.specs.declared.Lines.{Lines}
use Rattle.units.specs.Units.{lines}
use Rattle.lists.specs.Choice.{pick, first_of, neither}
use Rattle.lists.specs.Join.{joined, same-joined}
use Rattle.lists.specs.Tab.{tab, same-tab}
use Rattle.refusal.specs.declared.Refusal.TheVariants.{Range, Room}
use Rattle.refusal.specs.Number.{unrefused, Checked}
use Rattle.refusal.specs.Laws.{passed, not-refused}
use Rattle.raster.specs.declared.Buffer.{Buffer}
use Rattle.raster.specs.declared.Cell.{Cell}
use Rattle.raster.specs.declared.Code.{Code}
use Rattle.raster.specs.Moves.{cell, advance_by, advance_by-zero}
use Rattle.raster.specs.Wide.{code_of, is_wide, again_at}
use Rattle.raster.specs.Latch.{latched, sets_of, last_set, fetched_by}
use Rattle.board.specs.declared.Page.{Page}
use Rattle.board.specs.declared.Board.{Board}
use Rattle.board.specs.Modes.{field_mode}
use Rattle.timing.specs.declared.Timing.{Timing}
use Rattle.timing.specs.Fields.{hact_of, rows_of, visible_of, buffer_of, timing_of, counts_of}
use Rattle.timing.specs.Check.{page_check, state_refused, call_check}
use Rattle.timing.specs.Laws.{Accepted, row-shown, call-passed}
use Rattle.fetch.specs.Rows.{code_at, row_start, cell_at, fetched_of, fetched_before, fetch_at}
use Rattle.fetch.specs.Laws.{cell-shown, row-start-lt}
use Rattle.latch.specs.Held.{held_at, attributes_at}
use Rattle.latch.specs.Laws.{held-along, held_plain, attributes-are}
use Rattle.shape.specs.declared.FontLine.{FontLine}
use Rattle.shape.specs.Font.{Font, font_line_in, word_by, word_of}
use Rattle.video.specs.declared.Scene.{Scene}
use Rattle.video.specs.declared.Reading.{Reading}
use Rattle.video.specs.Scene.{scene_of}
use Rattle.video.specs.Cell.{column_of}
use Rattle.video.specs.Lent.{Lent, lent}
use Rattle.video.specs.At.{Content, lent_check, reading_of, counted_byte, content_at, scan_dots, dots_at, fetched_content}
use Rattle.dots.specs.Width.{shades, length-shades}
use Rattle.dots.specs.Half.{shown_of, fetched_for, cells-few, same-shown}
use Rattle.tables.specs.Tables.{mark_of, number_for, held_by, cell_by, shown_word, levels_of}
use Rattle.tables.specs.Laws.{shown-lt, gathered, gathered-lt, looked-up, word-of, mark-of, by_word}
use Rattle.line.specs.declared.Walk.{Walk}
use Rattle.line.specs.Line.{row_for, code_for, scan_for, column_dots, line_dots, line_length, line_over, draw_check, drawn_of}

unfoldable pub walk_of : Page → FontLine → Walk
walk_of p line = record { line = line; width = p.video.dots }

-- one cell, from its number
unfoldable pub dots_for : Walk → (looks words flags : List ℕ) → (number : ℕ) → List ℕ
dots_for w looks words flags x =
    shades (get_or looks (x / 512) 0 % 4) (get_or looks (x / 512) 0 / 4) w.width.0
    (shown_word words flags w.line w.width.0 (x % 512))

unfoldable pub column_for : Walk → (row looks words flags : List ℕ) → (c : ℕ) → List ℕ
column_for w row looks words flags c = dots_for w looks words flags (get_or row c 0)

pub record Ready (w : Walk) (row looks words flags : List ℕ) (n : ℕ) : Type 0 where
  pub least : 6 ≤ w.width.0
  pub most : w.width.0 ≤ 12
  pub few : n ≤ length row
  pub marked : (c : ℕ) → c < n → get_or row c 0 < 65536
  pub looks-all : length looks ≡ 128
  pub words-all : length words ≡ 1152
  pub flags-all : length flags ≡ 128

pub length-column : (w : Walk) (row looks words flags : List ℕ) (c : ℕ) → length (column_for w row looks words flags c) ≡ w.width.0
unfolding column_for dots_for
length-column w row looks words flags c = length-shades _ _ w.width.0 _

pub as-column : (w : Walk) (row looks words flags : List ℕ) (c : ℕ) {d : ℕ} (out old : List ℕ) → d ≡ w.width.0
    → out ≡ dots_for w looks words flags (get_or row c 0) ++ drop w.width.0 old → out ≡ column_for w row looks words flags c ++ drop d old
unfolding column_for
as-column w row looks words flags c out old e q = rw e q

-- the cells that are asked for, by the two ways to draw them
module _ (w : Walk) (row looks words flags : List ℕ) (columns : ℕ) {wide : Bool} (k : Ready w row looks words flags (fetched_for wide columns)) where
  pub ready-plain : wide ≡ false → Ready w row looks words flags columns
  ready-plain e = rw e at k

  pub ready-wide : wide ≡ true → Ready w row looks words flags ((columns + 1) / 2)
  ready-wide e = rw e at k

-- ---- the check in two stages, as the code has it: the call's own, then 7 and 8 for the line

abbrev pub last_of : (asked room : Bool) → Checked
last_of asked room = pick asked (Err Range) (pick room (Err Room) unrefused)

module _ (b : Board) (lent : Checked) (asked room : Bool) where
  pub check-last : call_check b lent false false ≡ unrefused → last_of asked room ≡ call_check b lent asked room
  unfolding call_check
  check-last e =
      let s = not-refused lent _ e in
      let p = not-refused (page_check b.page) _ s.1 in
      let r = passed (state_refused b || false) (Err Range) _ refl p.1 in
      let q = neither (state_refused b) false r.0 in
      rw (s.0, p.0, q.0)

  pub check-first : is_ok (call_check b lent false false) ≡ false → call_check b lent false false ≡ call_check b lent asked room
  unfolding call_check
  check-first = go (not (is_ok lent)) (page_check b.page) (state_refused b)
    where
      order : (short : Bool) → Checked → (range room : Bool) → Checked
      order short page range room = first_of ((short, lent) ∷ (not (is_ok page), page) ∷ (range, Err Range) ∷ (room, Err Room) ∷ []) unrefused

      go : (s : Bool) (p : Checked) (t : Bool) → is_ok (order s p (t || false) false) ≡ false → order s p (t || false) false ≡ order s p (t || asked) room
      go true p t q = refl
      go false p t q = by-page (is_ok p) refl t q
        where
          by-page : (d : Bool) → is_ok p ≡ d → (t : Bool) → is_ok (order false p (t || false) false) ≡ false → order false p (t || false) false ≡ order false p (t || asked) room
          by-page false e t q = rw e
          by-page true e true q = rw e
          by-page true e false q = absurd (true≢false (rw e at q))

-- ---- a call that is not refused

-- a line that the check takes is visible, and there is room for it
pub draw-passed : (b : Board) (chars attrs : List ℕ) (f : Font) (line room : ℕ) → draw_check b (lent_check chars attrs f) line room ≡ unrefused
    → Lent b chars attrs f.words f.flags × (row_for b line < rows_of b.page) × (line_length b ≤ room)
unfolding draw_check
draw-passed b chars attrs f line room e =
    let asked = leb (visible_of b.page).0 line in
    let short = ltb room (line_length b) in
    let k = call-passed b (lent_check chars attrs f) asked short e in
    (lent b chars attrs f asked short e, row-shown b.page line (leb-false _ _ k.in_reach), ltb-false _ _ k.roomy)

-- what is valid before the cell that the row fetches after i others
abbrev pub valid_by : Page → (chars attrs : List ℕ) → (r i : ℕ) → ℕ
valid_by p chars attrs r i = held_by (field_mode p) attrs (buffer_of p) (held_at p chars attrs r 0) (row_start p chars r) i

pub valid-along : (p : Page) (chars attrs : List ℕ) (r c : ℕ) → c ≤ hact_of p → valid_by p chars attrs r (fetched_before p chars r c) ≡ held_at p chars attrs r c
unfolding held_by fetch_at
valid-along p chars attrs r c h = sym (held-along p chars attrs r c h)

valid-next : (p : Page) (chars attrs : List ℕ) (r i : ℕ) → valid_by p chars attrs r (suc i) ≡ latched (pick (field_mode p) (get_or attrs (fetch_at p chars r i) 0) 0) (valid_by p chars attrs r i)
unfolding held_by last_set fetch_at
valid-next p chars attrs r i = refl

-- what is valid before a row, or 0 where its first cell sets attributes itself
unfoldable pub held_for : Page → (chars attrs : List ℕ) → (row at : ℕ) → ℕ
held_for p chars attrs r a = pick (ltb (get_or attrs a 0) 128) (held_at p chars attrs r 0) 0

-- whatever was valid before, the first cell's own byte is valid from there on
own-byte : (byte v h : ℕ) → 128 ≤ byte → latched byte v ≡ latched byte h
own-byte byte v h a = rw (le-ltb byte 128 a)

own-last : (f : ℕ → ℕ) (v h n : ℕ) → 128 ≤ f 0 → last_set f v (suc n) ≡ last_set f h (suc n)
unfolding last_set
own-last f v h zero a = own-byte (f 0) v h a
own-last f v h (suc n) a = ap (latched (f (suc n))) (own-last f v h n a)

-- so it makes no difference to the row's cells
module _ (p : Page) (chars attrs : List ℕ) (r : ℕ) (page : Accepted p) where
  abbrev made : (held i : ℕ) → ℕ
  made held = cell_by (reading_of p) chars attrs (buffer_of p) held (row_start p chars r)

  first-at : advance_by (buffer_of p) 0 (row_start p chars r) ≡ row_start p chars r
  first-at = advance_by-zero (buffer_of p) (row_start p chars r) (row-start-lt p chars page r)

  own-cell : (v h i : ℕ) → field_mode p ≡ true → 128 ≤ get_or attrs (row_start p chars r) 0 → made v i ≡ made h i
  unfolding cell_by held_by last_set
  own-cell v h zero m a =
      let k = fetched_content (reading_of p) chars attrs 0 (row_start p chars r) in
      rw first-at (ap (λ (x : ℕ). number_for (reading_of p) (record { code = k.code; attributes = x; here = k.here })) (own-byte (get_or attrs (row_start p chars r) 0) v h a))
  own-cell v h (suc i) m a =
      ap (λ (x : ℕ). number_for (reading_of p) (fetched_content (reading_of p) chars attrs x (advance_by (buffer_of p) (suc i) (row_start p chars r)))) (own-last (λ (j : ℕ). sets_of (field_mode p) attrs (advance_by (buffer_of p) j (row_start p chars r))) v h i (rw (m, first-at) a))

  pub held-counts : (n : ℕ) → tab n (made (held_for p chars attrs r (row_start p chars r))) ≡ tab n (made (held_at p chars attrs r 0))
  unfolding held_for
  held-counts n = go (ltb (get_or attrs (row_start p chars r) 0) 128) refl (field_mode p) refl
    where
      go : (t : Bool) → ltb (get_or attrs (row_start p chars r) 0) 128 ≡ t → (m : Bool) → field_mode p ≡ m → tab n (made (pick t (held_at p chars attrs r 0) 0)) ≡ tab n (made (held_at p chars attrs r 0))
      go true e m f = refl
      go false e true f = same-tab n _ _ (λ i l. own-cell 0 (held_at p chars attrs r 0) i f (ltb-false _ _ e))
      go false e false f = ap (λ (v : ℕ). tab n (made v)) (sym (held_plain p chars attrs f r 0))

-- that cell
abbrev pub content_by : Page → (chars attrs : List ℕ) → (r i : ℕ) → Content
content_by p chars attrs r i = fetched_content (reading_of p) chars attrs (valid_by p chars attrs r i) (fetch_at p chars r i)

-- on a column that shows a cell again what is valid before it has the cell's own byte, if that has AFLG
again-valid : (k : Reading) (byte held : ℕ) → latched (counted_byte k true byte) (latched (pick k.runs byte 0) held) ≡ latched byte held
again-valid k byte held = go k.runs
  where
    go : (t : Bool) → latched (pick t 0 byte) (latched (pick t byte 0) held) ≡ latched byte held
    go true = refl
    go false = refl

module _ (p : Page) (chars attrs : List ℕ) (r c : ℕ) (h : c < hact_of p) where
  abbrev k : Code
  k = code_of (code_at p chars r)

  -- the cell that the column shows
  abbrev i : ℕ
  i = pick (is_wide k) (c / 2) c

  byte-is : latched (counted_byte (reading_of p) (again_at k c) (get_or attrs (fetch_at p chars r i) 0)) (valid_by p chars attrs r (fetched_before p chars r c))
      ≡ latched (get_or attrs (fetch_at p chars r i) 0) (valid_by p chars attrs r i)
  unfolding fetched_before fetched_by
  byte-is = go (is_wide k) (ℕ_discrete (c % 2) 1)
    where
      m : min c (hact_of p) ≡ c
      m = omega arith

      byte : ℕ → ℕ
      byte i = get_or attrs (fetch_at p chars r i) 0

      go : (t : Bool) → Dec (c % 2 ≡ 1) → latched (counted_byte (reading_of p) (t && eqb (c % 2) 1) (byte (pick t (c / 2) c))) (valid_by p chars attrs r (pick t ((min c (hact_of p) + 1) / 2) (min c (hact_of p))))
          ≡ latched (byte (pick t (c / 2) c)) (valid_by p chars attrs r (pick t (c / 2) c))
      go false d = rw m
      go true (yes o) =
          let n : (c + 1) / 2 ≡ suc (c / 2) = omega (arith, o) in
          rw (m, n, eq-eqb (c % 2) 1 o) (ap (latched (counted_byte (reading_of p) true (byte (c / 2)))) (valid-next p chars attrs r (c / 2)) ∙ again-valid (reading_of p) (byte (c / 2)) (valid_by p chars attrs r (c / 2)))
      go true (no f) =
          let n : (c + 1) / 2 ≡ c / 2 = omega (arith, f) in
          rw (m, n, ne_eqb (c % 2) 1 f)

  pub content-shown : content_at (reading_of p) chars attrs (attributes_at p chars attrs r c) (cell_at p chars r c) ≡ content_by p chars attrs r i
  content-shown =
      let v = valid-along p chars attrs r c (omega (arith, h)) in
      ap (λ (x : ℕ). content_at (reading_of p) chars attrs x (cell_at p chars r c)) (attributes-are p chars attrs r c h)
      ∙ rw (← cell-shown p chars r c h, ← v) (ap (λ (x : ℕ). record { code = (content_by p chars attrs r i).code; attributes = x; here = (content_by p chars attrs r i).here }) byte-is)

-- a column shows it
pub column-content : (b : Board) (chars attrs : List ℕ) (f : Font) (line field c : ℕ) → c < hact_of b.page
    → shown_of (is_wide (code_for b chars line)) (λ (i : ℕ). scan_dots b (word_of f (scan_for b chars line)) (scan_for b chars line) field (content_by b.page chars attrs (row_for b line) i)) c
    ≡ column_dots b chars attrs f line field c
unfolding column_dots dots_at shown_of
column-content b chars attrs f line field c h =
    ap (λ (x : Content). column_of (is_wide (code_for b chars line)) (eqb (c % 2) 1) (scan_dots b (word_of f (scan_for b chars line)) (scan_for b chars line) field x))
    (sym (content-shown b.page chars attrs (row_for b line) c h))

-- the line of which the scan line shows these words of the codes, and a buffer that has it at its front
unfoldable pub shaped_line : Board → (chars attrs : List ℕ) → (words : Bool → ℕ → ℕ) → (line field : ℕ) → List ℕ
shaped_line b chars attrs words line field =
    joined 0 (hact_of b.page)
    (shown_of (is_wide (code_for b chars line)) (λ i. scan_dots b words (scan_for b chars line) field (content_by b.page chars attrs (row_for b line) i)))

abbrev pub shaped_over : Board → (chars attrs : List ℕ) → (words : Bool → ℕ → ℕ) → (line field : ℕ) → (out : List ℕ) → List ℕ
shaped_over b chars attrs words line field out = shaped_line b chars attrs words line field ++ drop (line_length b) out

-- of a font's words it is the line
pub shaped : (b : Board) (chars attrs : List ℕ) (f : Font) (line field : ℕ)
    → shaped_line b chars attrs (word_by f.words f.flags (font_line_in f (scan_for b chars line))) line field ≡ line_dots b chars attrs f line field
unfolding shaped_line line_dots word_of
shaped b chars attrs f line field = same-joined 0 (hact_of b.page) _ _ (λ c l u. column-content b chars attrs f line field c (omega arith))

-- so the scan line and what it takes from the font are enough
pub as_line : (b : Board) (chars attrs : List ℕ) (f : Font) (line field : ℕ) (s : Lines) (font : FontLine) (out out₀ : List ℕ) → s ≡ lines (scan_for b chars line) → font ≡ font_line_in f s.0
    → out ≡ shaped_over b chars attrs (word_by f.words f.flags font) line field out₀ → out ≡ line_over b chars attrs f line field out₀
as_line b chars attrs f line field s font out out₀ se fe e =
    (rw (fe, se) at e) ∙ ap (λ (l : List ℕ). l ++ drop (line_length b) out₀) (shaped b chars attrs f line field)

-- what the drawer has before it goes along the line: how many columns, the line's constants, the row's cells, and the levels of the scan line's marks
pub record Prepared (b : Board) (chars attrs : List ℕ) (font : FontLine) (line field n : ℕ) (w : Walk) (wide : Bool) (row looks : List ℕ) : Type 0 where
  pub counted : n ≡ hact_of b.page
  pub walked : w ≡ walk_of b.page font
  pub widened : wide ≡ is_wide (code_for b chars line)
  pub beyond : List ℕ
  pub row_is : row
      ≡ tab (fetched_for wide n) (cell_by (reading_of b.page) chars attrs (buffer_of b.page) (held_at b.page chars attrs (row_for b line) 0)
      (row_start b.page chars (row_for b line))) ++ beyond
  pub above : List ℕ
  pub looks-is : looks ≡ tab 128 (levels_of (scene_of b (scan_for b chars line) field)) ++ above

-- the same in the words of the calls that made it
pub prepared-of : (b : Board) (chars attrs : List ℕ) (font : FontLine) (line field : ℕ) {row looks : List ℕ} (beyond above : List ℕ) {t : Timing} {r byte n : ℕ} {k : Code} {wide : Bool} {s : Lines} {w : Walk} {start : Cell} {v : ℕ} {g : Reading} {u : Buffer} {scene : Scene}
    → t ≡ timing_of b.page → r ≡ row_for b line → byte ≡ code_at b.page chars r → k ≡ code_of byte → s ≡ lines (scan_for b chars line)
    → w ≡ walk_of b.page font
    → Accepted b.page → start ≡ cell (row_start b.page chars r) → v ≡ held_for b.page chars attrs r start.address → n ≡ fetched_of b.page chars r → g ≡ reading_of b.page → u ≡ buffer_of b.page
    → row ≡ tab n (cell_by g chars attrs u v start.address) ++ beyond → scene ≡ scene_of b s.0 field → looks ≡ tab 128 (levels_of scene) ++ above → wide ≡ is_wide k
    → Prepared b chars attrs font line field t.counts.hact.0 w wide row looks
unfolding timing_of counts_of fetched_of
prepared-of b chars attrs font line field beyond above te re be ke se we page starts helds ne ge ue row-e scene-e looks-e wide-e = record {
  counted = rw te;
  walked = we;
  widened = rw (wide-e, ke, be, re);
  beyond = beyond;
  row_is = rw (te, wide-e, ke, be, re) ((rw (helds, starts, ge, ue, ne, re) at row-e) ∙ ap (λ (l : List ℕ). l ++ beyond) (held-counts b.page chars attrs (row_for b line) page _));
  above = above;
  looks-is = rw (scene-e, se) at looks-e;
}

module _ (b : Board) (chars attrs words flags : List ℕ) (font : FontLine) (line field n : ℕ) (w : Walk) (wide : Bool) (row looks : List ℕ) (q : Prepared b chars attrs font line field n w wide row looks)
    (bytes : (i : ℕ) → get_or chars i 0 < 256) where
  abbrev scan : ℕ
  scan = scan_for b chars line

  abbrev content : ℕ → Content
  content i = content_by b.page chars attrs (row_for b line) i

  abbrev cell_of : ℕ → List ℕ
  cell_of i = scan_dots b (word_by words flags font) scan field (content i)

  numbered : (i : ℕ) → i < fetched_for wide n → get_or row i 0 ≡ number_for (reading_of b.page) (content i)
  unfolding fetch_at
  numbered i h = gathered (reading_of b.page) chars attrs _ _ _ (fetched_for wide n) row q.beyond q.row_is i h

  byte-code : (i : ℕ) → (content i).code < 256
  byte-code i = shown-lt (reading_of b.page) chars attrs (valid_by b.page chars attrs (row_for b line) i) (fetch_at b.page chars (row_for b line) i) bytes

  same-cell : Accepted b.page → (i : ℕ) → i < fetched_for wide n → column_for w row looks words flags i ≡ cell_of i
  unfolding column_for dots_for walk_of
  same-cell a i h =
      rw (q.walked, numbered i h, word-of (reading_of b.page) (content i) (byte-code i) words flags font b.page.video.dots.0, mark-of (reading_of b.page) (content i) (byte-code i))
      (by_word b words flags font scan field a (content i) (get_or looks (mark_of (content i).attributes (content i).here) 0)
      (looked-up (scene_of b scan field) (content i).attributes (content i).here looks q.above q.looks-is))

  same-column : Accepted b.page → (c : ℕ) → c < n → shown_of wide (column_for w row looks words flags) c ≡ shown_of (is_wide (code_for b chars line)) cell_of c
  same-column a c h = same-shown wide _ _ n (same-cell a) c h ∙ ap (λ (t : Bool). shown_of t cell_of c) q.widened

  pub ready : Lent b chars attrs words flags → {room : ℕ} → line_length b ≤ room → n ≤ length row → length looks ≡ 128
      → Ready w row looks words flags (fetched_for wide n) × (n * w.width.0 ≤ room)
  unfolding walk_of
  ready k roomy l all = (
    record {
      least = rw q.walked k.page.least;
      most = rw q.walked k.page.most;
      few = omega (arith, l, cells-few wide n);
      marked = gathered-lt (reading_of b.page) chars attrs _ _ _ (fetched_for wide n) row q.beyond q.row_is bytes;
      looks-all = all;
      words-all = k.words-all;
      flags-all = k.flags-all;
    },
    rw (q.walked, q.counted) roomy,
  )

  pub drawn : Accepted b.page → (out out₀ : List ℕ) → out ≡ joined 0 n (shown_of wide (column_for w row looks words flags)) ++ drop (n * w.width.0) out₀
      → out ≡ shaped_over b chars attrs (word_by words flags font) line field out₀
  unfolding walk_of shaped_line
  drawn a out out₀ e =
      e
      ∙ ap (λ (l : List ℕ). l ++ drop (n * w.width.0) out₀) (same-joined 0 n _ _ (λ c l u. same-column a c (omega arith)))
      ∙ rw (q.walked, q.counted)

-- ---- what the call leaves

module _ (b : Board) (chars attrs : List ℕ) (f : Font) (line field : ℕ) (out₀ : List ℕ) where
  pub left-drawn : is_ok (draw_check b (lent_check chars attrs f) line (length out₀)) ≡ true
      → (out : List ℕ) → out ≡ line_dots b chars attrs f line field ++ drop (line_length b) out₀ → out ≡ drawn_of b chars attrs f line field out₀
  unfolding drawn_of
  left-drawn t out e = rw t e

  pub left_alone : is_ok (draw_check b (lent_check chars attrs f) line (length out₀)) ≡ false → out₀ ≡ drawn_of b chars attrs f line field out₀
  unfolding drawn_of
  left_alone t = rw t
