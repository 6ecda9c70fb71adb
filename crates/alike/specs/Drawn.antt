-- Two boards that fetch the same bytes (`Views.antt`) draw the same lines and pictures, in every field and both attribute modes. Assumes nothing.
use Rattle.std.specs.Prelude.{ℕ, ◌/◌, ◌%◌, ◌<◌, ◌≡◌, List, eqb}
use Rattle.std.proofs.Math.Path.{ap}
use Rattle.std.proofs.Common.{◌∙◌, arith}
use Rattle.lists.specs.Join.{joined, same-joined}
use Rattle.raster.specs.Wide.{code_of, is_wide}
use Rattle.board.specs.declared.Page.{Page}
use Rattle.board.specs.declared.Board.{Board}
use Rattle.timing.specs.Fields.{lines_of, rows_of, hact_of, visible_of}
use Rattle.timing.specs.Laws.{row-shown}
use Rattle.fetch.specs.Rows.{code_at, cell_at}
use Rattle.latch.specs.Held.{attributes_at}
use Rattle.shape.specs.Font.{Font}
use Rattle.video.specs.Scene.{scene_of}
use Rattle.video.specs.Cell.{column_of}
use Rattle.video.specs.At.{scan_of, scan_dots, dots_at}
use Rattle.line.specs.Line.{column_dots, line_dots}
use Rattle.picture.specs.Picture.{picture_dots}
use Rattle.alike.specs.Pages.{Same, same-look, same-blink, same-underline, same-hact, same_lines, same-visible}
use Rattle.alike.specs.Views.{View, page_of, SameBytes, Alike, same-cell, same-attributes}

-- what is the same for all cells of a scan line, on boards in the same power state
pub same-scene : (b n : Board) → Same b.page n.page → b.resets ≡ n.resets → (scan field : ℕ) → scene_of b scan field ≡ scene_of n scan field
unfolding scene_of
same-scene b n s power scan field = rw (same-look s, same-blink s, same-underline s, s.switches, s.chip, s.strike, s.cursor, power)

-- the dots of a cell that has the same bytes
pub same-dots : (v w : View) → Same (page_of v) (page_of w) → v.board.resets ≡ w.board.resets → (f : Font) (scan field valid x : ℕ) → SameBytes v w x
    → dots_at v.board v.chars v.attrs f scan field valid x ≡ dots_at w.board w.chars w.attrs f scan field valid x
unfolding dots_at scan_dots
same-dots v w s power f scan field valid x e = rw (e.0, e.1, same-scene v.board w.board s power scan field, s.modes, s.chip, s.switches, s.dots, s.cursor)

module _ {v w : View} (a : Alike v w) where
  abbrev p : Page
  p = page_of v

  abbrev q : Page
  q = page_of w

  pub same_power : v.board.resets ≡ w.board.resets
  same_power = ap (λ (b : Board). b.resets) a.board

  module _ (f : Font) where
    -- a column of a line, by its row's code, the lines of a row, the attributes valid there, and its cell
    abbrev by : (line field c : ℕ) → (code L valid x : ℕ) → List ℕ
    by line field c k L valid x =
        column_of (is_wide (code_of k)) (eqb (c % 2) 1) (dots_at w.board w.chars w.attrs f (scan_of (code_of k) L (line % L)) field valid x)

    same-column : (line field c : ℕ) → line / lines_of p < rows_of p → c < hact_of p
        → column_dots v.board v.chars v.attrs f line field c ≡ column_dots w.board w.chars w.attrs f line field c
    unfolding column_dots
    same-column line field c h l =
        let r = line / lines_of p in
        let k = code_of (code_at p v.chars r) in
        let L = same_lines a.page in
        ap (column_of (is_wide k) (eqb (c % 2) 1))
        (same-dots v w a.page same_power f (scan_of k (lines_of p) (line % lines_of p)) field (attributes_at p v.chars v.attrs r c) (cell_at p v.chars r c) (a.bytes r c h l))
        ∙ parts (a.code r h) L (same-attributes a r c h l) (same-cell a r c h)
        ∙ ap (λ (x : ℕ). by line field c (code_at q w.chars x) (lines_of q) (attributes_at q w.chars w.attrs x c) (cell_at q w.chars x c)) (ap (λ (x : ℕ). line / x) L)
      where
        parts : {k k' L L' t t' x x' : ℕ} → k ≡ k' → L ≡ L' → t ≡ t' → x ≡ x' → by line field c k L t x ≡ by line field c k' L' t' x'
        parts ke le te xe = rw (ke, le, te, xe)

    pub alike-line : (line field : ℕ) → line < (visible_of p).0 → line_dots v.board v.chars v.attrs f line field ≡ line_dots w.board w.chars w.attrs f line field
    unfolding line_dots
    alike-line line field h =
        same-joined 0 (hact_of p) _ _ (λ c _ l. same-column line field c (row-shown p line h) (omega (arith, l)))
        ∙ ap (λ (n : ℕ). joined 0 n (column_dots w.board w.chars w.attrs f line field)) (same-hact a.page)

    pub alike-picture : (field : ℕ) → picture_dots v.board v.chars v.attrs f field ≡ picture_dots w.board w.chars w.attrs f field
    unfolding picture_dots
    alike-picture field =
        same-joined 0 (visible_of p).0 _ _ (λ line _ l. alike-line line field (omega (arith, l)))
        ∙ ap (λ (n : ℕ). joined 0 n (λ (line : ℕ). line_dots w.board w.chars w.attrs f line field)) (same-visible a.page)
