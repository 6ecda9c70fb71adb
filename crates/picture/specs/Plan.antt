-- A row's lines as the drawer makes them, from cells and tables. Assumes nothing.
use Rattle.std.specs.Prelude.{ℕ, ◌+◌, ◌*◌, ◌/◌, ◌%◌, ◌≤◌, ◌<◌, ◌≡◌, Bool, true, false, List, ◌++◌, length, get_or, take}
use Rattle.std.proofs.Common.{sym, ◌∙◌, add-one, arith}
use Rattle.std.proofs.Math.Path.{ap}
use Rattle.std.proofs.Math.ListN.{drop, get_or-append}
use Rattle.units.specs.declared.Lines.{Lines}
use Rattle.units.specs.Units.{clocks, lines}
use Rattle.lists.specs.Choice.{pick}
use Rattle.lists.specs.Join.{joined, same-joined, length-joined}
use Rattle.lists.specs.Tab.{tab, length-tab, get_or-tab}
use Rattle.raster.specs.declared.Cell.{Cell}
use Rattle.raster.specs.declared.Code.{Code}
use Rattle.raster.specs.Moves.{cell, Bounded}
use Rattle.raster.specs.Wide.{code_of, is_wide, is_top, is_bottom}
use Rattle.board.specs.declared.Page.{Page}
use Rattle.timing.specs.Fields.{hact_of, scans_of, lines_of, rows_of, buffer_of, counts_of}
use Rattle.fetch.specs.Rows.{code_at, row_start, fetched_of}
use Rattle.fetch.specs.Laws.{begun_all}
use Rattle.latch.specs.Held.{held_at}
use Rattle.latch.specs.Laws.{held_next}
use Rattle.video.specs.At.{scan_of, reading_of}
use Rattle.dots.specs.Stores.{ink_of}
use Rattle.dots.specs.Width.{shades, length-shades, take-shades}
use Rattle.dots.specs.Half.{shown_of, fetched_for, same-shown, length-shown, drawn_plain}
use Rattle.tables.specs.Tables.{held_by, cell_by}
use Rattle.line.specs.Walk.{valid_by, valid-along}
use Rattle.picture.specs.declared.Plan.{Plan}

-- the dots of a cell's number on a scan line
unfoldable pub cell_dots_of : (shown looks : List ℕ) → (d scan x : ℕ) → List ℕ
cell_dots_of shown looks d scan x =
    shades (get_or looks (scan * 128 + x / 512) 0 % 4) (get_or looks (scan * 128 + x / 512) 0 / 4) d (get_or shown (scan * 512 + x % 512) 0)

unfoldable pub cell_from : (cells shown looks : List ℕ) → (d scan i : ℕ) → List ℕ
cell_from cells shown looks d scan i = cell_dots_of shown looks d scan (get_or cells i 0)

-- line s of a row with a code
unfoldable pub line_from : Plan → Code → (cells shown looks : List ℕ) → (s : ℕ) → List ℕ
line_from p k cells shown looks s = joined 0 p.columns.0 (shown_of (is_wide k) (cell_from cells shown looks p.dots.0 (scan_of k p.lines.0 s)))

pub record TablesFit (p : Plan) (shown looks inks : List ℕ) : Type 0 where
  pub least : 6 ≤ p.dots.0
  pub most : p.dots.0 ≤ 12
  pub some : 0 < p.columns.0
  pub few : p.columns.0 ≤ 256
  pub short : p.lines.0 ≤ 32
  pub tabled : p.scans.0 ≤ 16
  pub scanned : (k : Code) (s : ℕ) → s < p.lines.0 → scan_of k p.lines.0 s < p.scans.0
  pub width_is : p.width ≡ p.columns.0 * p.dots.0
  pub size_is : p.size ≡ p.lines.0 * p.width
  pub bounded : Bounded p.buffer
  pub shown-all : length shown ≡ 8192
  pub looks-all : length looks ≡ 2048
  pub looks-few : (s i : ℕ) → s < p.scans.0 → i < 128 → get_or looks (s * 128 + i) 0 < 16
  pub inks-are : inks ≡ tab 288 ink_of

-- a scan line of the row's is shown, whatever its code
pub scan_lt : (k : Code) (L s : ℕ) → s < L → scan_of k L s < L
scan_lt k L s h = go (is_top k) (is_bottom k)
  where
    go : (t u : Bool) → pick t (s / 2) (pick u ((L + s) / 2) s) < L
    go true u = omega (arith, h)
    go false true = omega (arith, h)
    go false false = h

pub length-cell : (cells shown looks : List ℕ) (d scan i : ℕ) → length (cell_from cells shown looks d scan i) ≡ d
unfolding cell_from cell_dots_of
length-cell cells shown looks d scan i = length-shades _ _ d _

-- a turn of the drawer's loop: the cell's dots are in front of what is stored
pub front-cell : (cells shown looks : List ℕ) (d scan i w : ℕ) → d ≤ w → take d (cell_dots_of shown looks w scan (get_or cells i 0)) ≡ cell_from cells shown looks d scan i
unfolding cell_from cell_dots_of
front-cell cells shown looks d scan i w h = take-shades _ _ d w _ h

pub length-stored : (shown looks : List ℕ) (w scan x : ℕ) → length (cell_dots_of shown looks w scan x) ≡ w
unfolding cell_dots_of
length-stored shown looks w scan x = length-shades _ _ w _

pub as-cell : (cells shown looks : List ℕ) (d scan i : ℕ) (out rest : List ℕ) → out ≡ cell_dots_of shown looks d scan (get_or cells i 0) ++ rest → out ≡ cell_from cells shown looks d scan i ++ rest
unfolding cell_from
as-cell cells shown looks d scan i out rest e = e

-- ---- lines and rows

pub length-line : (p : Plan) (k : Code) (cells shown looks : List ℕ) → 6 ≤ p.dots.0 → p.width ≡ p.columns.0 * p.dots.0
    → (s : ℕ) → length (line_from p k cells shown looks s) ≡ p.width
unfolding line_from
length-line p k cells shown looks h e s =
    let scan = scan_of k p.lines.0 s in
    length-joined _ p.dots.0 (length-shown _ p.dots.0 (omega (arith, h)) (length-cell cells shown looks p.dots.0 scan) (is_wide k)) 0 p.columns.0 ∙ sym e

pub as_line : (p : Plan) (k : Code) (cells shown looks : List ℕ) (s : ℕ) {scan : Lines} {wide : Bool} (out rest : List ℕ)
    → scan ≡ lines (scan_of k p.lines.0 s) → wide ≡ is_wide k
    → out ≡ joined 0 p.columns.0 (shown_of wide (cell_from cells shown looks p.dots.0 scan.0)) ++ rest → out ≡ line_from p k cells shown looks s ++ rest
unfolding line_from
as_line p k cells shown looks s out rest se we e = rw (se, we) at e

pub plain-line : (p : Plan) (cells shown looks : List ℕ) (scan : ℕ) {wide : Bool} {out : List ℕ} (out₀ : List ℕ) → wide ≡ false → p.width ≡ p.columns.0 * p.dots.0
    → out ≡ joined 0 p.columns.0 (cell_from cells shown looks p.dots.0 scan) ++ drop (p.columns.0 * p.dots.0) out₀
    → out ≡ joined 0 p.columns.0 (shown_of wide (cell_from cells shown looks p.dots.0 scan)) ++ drop p.width out₀
plain-line p cells shown looks scan out₀ t e q = rw e (drawn_plain t _ p.columns.0 _ q)

-- the row that begins at an address, where held is valid before it
unfoldable pub row_line : Plan → Code → (chars attrs shown looks : List ℕ) → (held start s : ℕ) → List ℕ
row_line p k chars attrs shown looks held start s =
    joined 0 p.columns.0
    (shown_of (is_wide k) (λ (i : ℕ). cell_dots_of shown looks p.dots.0 (scan_of k p.lines.0 s) (cell_by p.reading chars attrs p.buffer held start i)))

unfoldable pub row_from : Plan → Code → (chars attrs shown looks : List ℕ) → (held start : ℕ) → List ℕ
row_from p k chars attrs shown looks held start = joined 0 p.lines.0 (row_line p k chars attrs shown looks held start)

pub same_row : (p : Plan) (k : Code) (chars attrs shown looks cells rest : List ℕ) (held start : ℕ)
    → cells ≡ tab (fetched_for (is_wide k) p.columns.0) (cell_by p.reading chars attrs p.buffer held start) ++ rest
    → joined 0 p.lines.0 (line_from p k cells shown looks) ≡ row_from p k chars attrs shown looks held start
unfolding row_from row_line line_from cell_from
same_row p k chars attrs shown looks cells rest held start e =
    same-joined 0 p.lines.0 _ _ (λ s l u.
    same-joined 0 p.columns.0 _ _ (λ c v w.
    same-shown (is_wide k) _ _ p.columns.0 (λ i h. ap (cell_dots_of shown looks p.dots.0 (scan_of k p.lines.0 s)) (at i h)) c (omega (arith, w))))
  where
    n : ℕ
    n = fetched_for (is_wide k) p.columns.0

    f : ℕ → ℕ
    f = cell_by p.reading chars attrs p.buffer held start

    at : (i : ℕ) → i < n → get_or cells i 0 ≡ f i
    at i h = rw e (get_or-append (tab n f) rest 0 i (rw (length-tab n f) h)) ∙ get_or-tab n f i h

-- in the words of the call that gathers the cells
module _ (p : Plan) (k : Code) (chars attrs : List ℕ) (held start : ℕ) {n : ℕ} (c : n ≡ fetched_for (is_wide k) p.columns.0) where
  pub as_row : (shown looks cells rest : List ℕ) (out back : List ℕ) → cells ≡ tab n (cell_by p.reading chars attrs p.buffer held start) ++ rest
      → out ≡ joined 0 p.lines.0 (line_from p k cells shown looks) ++ back → out ≡ row_from p k chars attrs shown looks held start ++ back
  as_row shown looks cells rest out back e q = q ∙ ap (λ (l : List ℕ). l ++ back) (same_row p k chars attrs shown looks cells rest held start (rw c at e))

  pub held_after : (v : ℕ) → v ≡ held_by p.reading.runs attrs p.buffer held start n → v ≡ held_by p.reading.runs attrs p.buffer held start (fetched_for (is_wide k) p.columns.0)
  held_after v e = rw c at e

-- row r of a page
unfoldable pub row_drawn : Plan → Page → (chars attrs shown looks : List ℕ) → (r : ℕ) → List ℕ
row_drawn p page chars attrs shown looks r = row_from p (code_of (code_at page chars r)) chars attrs shown looks (held_at page chars attrs r 0) (row_start page chars r)

pub length-row : (p : Plan) (page : Page) (chars attrs shown looks : List ℕ) → 6 ≤ p.dots.0 → p.width ≡ p.columns.0 * p.dots.0 → p.size ≡ p.lines.0 * p.width
    → (r : ℕ) → length (row_drawn p page chars attrs shown looks r) ≡ p.size
unfolding row_drawn row_from row_line cell_dots_of
length-row p page chars attrs shown looks h w z r = length-joined _ p.width each 0 p.lines.0 ∙ sym z
  where
    k : Code
    k = code_of (code_at page chars r)

    each : (s : ℕ) → length (row_line p k chars attrs shown looks (held_at page chars attrs r 0) (row_start page chars r) s) ≡ p.width
    each s = length-joined _ p.dots.0 (length-shown _ p.dots.0 (omega (arith, h)) (λ i. length-shades _ _ p.dots.0 _) (is_wide k)) 0 p.columns.0 ∙ sym w

unfoldable pub plan_of : Page → Plan
plan_of p = record {
  columns = clocks (hact_of p);
  dots = p.video.dots;
  lines = lines (lines_of p);
  scans = lines (scans_of p);
  rows = rows_of p;
  width = hact_of p * p.video.dots.0;
  size = lines_of p * (hact_of p * p.video.dots.0);
  buffer = buffer_of p;
  reading = reading_of p;
}

-- where the drawer stands in a row: its code, what is valid before it, and its start
module _ (p : Plan) (page : Page) (chars attrs : List ℕ) (r : ℕ) {byte held : ℕ} {k : Code} {start : Cell} (be : byte ≡ code_at page chars r) (ke : k ≡ code_of byte)
    (v : held ≡ held_at page chars attrs r 0) (q : start ≡ cell (row_start page chars r)) where
  pub as-row-at : (shown looks out part : List ℕ) → p.size ≡ p.lines.0 * p.width → out ≡ row_from p k chars attrs shown looks held start.address ++ drop (p.lines.0 * p.width) part
      → out ≡ row_drawn p page chars attrs shown looks r ++ drop p.size part
  unfolding row_drawn
  as-row-at shown looks out part z e = (rw (v, q, ke, be) at e) ∙ ap (λ (i : ℕ). row_drawn p page chars attrs shown looks r ++ drop i part) (sym z)

  -- so many cells
  pub counted : p ≡ plan_of page → (n : ℕ) → n ≡ fetched_of page chars r → n ≡ fetched_for (is_wide k) p.columns.0
  unfolding plan_of fetched_of counts_of
  counted e n c = rw (e, c, ke, be)

  -- what is valid after a row is what the next begins with
  pub carried_on : p ≡ plan_of page → (x : ℕ) → x ≡ held_by p.reading.runs attrs p.buffer held start.address (fetched_for (is_wide k) p.columns.0) → x ≡ held_at page chars attrs (r + 1) 0
  unfolding plan_of fetched_of counts_of
  carried_on e x d =
      (rw (e, v, q, ke, be) at d)
      ∙ ap (valid_by page chars attrs r) (sym (begun_all page chars r))
      ∙ valid-along page chars attrs r (hact_of page) (omega arith)
      ∙ held_next page chars attrs r
      ∙ rw (add-one r)
