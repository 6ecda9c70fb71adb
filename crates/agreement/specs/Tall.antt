-- Double height (02, R-4): a row of top halves and a row of bottom halves that show the same cells are one row of double size. Line j of the two together, of twice
-- L, shows scan line j / 2, so that each scan line comes twice. With an odd L the two lines of the middle scan line are the last of one row and the first of the
-- other. Assumes nothing.
use Rattle.std.specs.Prelude.{ℕ, ◌+◌, ◌-◌, ◌*◌, ◌/◌, ◌%◌, ◌<◌, ◌≡◌, true, false, List, eqb, ltb, get_or}
use Rattle.std.proofs.Math.Path.{sym, ap, ap₂}
use Rattle.std.proofs.Common.{◌∙◌, arith, lt-ltb, le-ltb}
use Rattle.std.proofs.Math.Decide.{dec_lt}
use Rattle.std.proofs.Math.Arith.{digits_div, digits_mod}
use Rattle.lists.specs.Choice.{pick}
use Rattle.lists.specs.Join.{joined, same-joined}
use Rattle.raster.specs.declared.Code.{Code}
use Rattle.raster.specs.Moves.{advance_by}
use Rattle.raster.specs.Latch.{latched}
use Rattle.raster.specs.Wide.{code_of, is_wide}
use Rattle.board.specs.declared.Board.{Board}
use Rattle.board.specs.Modes.{field_mode}
use Rattle.timing.specs.Fields.{hact_of, lines_of, buffer_of}
use Rattle.fetch.specs.Rows.{code_at, row_start, cell_at, fetch_at}
use Rattle.fetch.specs.Laws.{cell-shown}
use Rattle.latch.specs.Held.{attributes_at}
use Rattle.shape.specs.Font.{Font}
use Rattle.video.specs.Cell.{column_of}
use Rattle.video.specs.At.{scan_of, dots_at}
use Rattle.line.specs.Line.{column_dots, line_dots}
use Rattle.agreement.specs.Rows.{line_of}

module _ (b : Board) (chars attrs : List ℕ) (f : Font) (field r s : ℕ) (top : code_at b.page chars r ≡ 2) (bottom : code_at b.page chars s ≡ 3)
    (start : row_start b.page chars r ≡ row_start b.page chars s) where
  abbrev L : ℕ
  L = lines_of b.page

  -- a scan line of the row's cells, of double width
  abbrev pub tall_line : (scan : ℕ) → List ℕ
  tall_line scan =
      joined 0 (hact_of b.page)
      (λ (c : ℕ). column_of true (eqb (c % 2) 1) (dots_at b chars attrs f scan field (attributes_at b.page chars attrs r c) (cell_at b.page chars r c)))

  -- line j of the two rows
  abbrev pub pair_line : (j : ℕ) → List ℕ
  pair_line j = pick (ltb j L) (line_dots b chars attrs f (line_of b r j) field) (line_dots b chars attrs f (line_of b s (j - L)) field)

  same-cell : (c : ℕ) → c < hact_of b.page → cell_at b.page chars s c ≡ cell_at b.page chars r c
  unfolding fetch_at
  same-cell c h =
      let at-r = rw top at (cell-shown b.page chars r c h) in
      let at-s = rw bottom at (cell-shown b.page chars s c h) in
      sym at-s ∙ ap (advance_by (buffer_of b.page) (c / 2)) (sym start) ∙ at-r

  -- a line by its row's code and its scan line
  abbrev line_by : Code → (scan row : ℕ) → List ℕ
  line_by k scan q =
      joined 0 (hact_of b.page)
      (λ (c : ℕ). column_of (is_wide k) (eqb (c % 2) 1) (dots_at b chars attrs f scan field (attributes_at b.page chars attrs q c) (cell_at b.page chars q c)))

  in_row : (q l : ℕ) → l < L → (k : ℕ) → code_at b.page chars q ≡ k → line_dots b chars attrs f (line_of b q l) field ≡ line_by (code_of k) (scan_of (code_of k) L l) q
  unfolding line_dots column_dots
  in_row q l h k e =
      ap₂ (λ (x y : ℕ). line_by (code_of (code_at b.page chars x)) (scan_of (code_of (code_at b.page chars x)) L y) x) (digits_div q h) (digits_mod q h)
      ∙ ap (λ (x : ℕ). line_by (code_of x) (scan_of (code_of x) L l) q) e

  in_top : (j : ℕ) → j < L → line_dots b chars attrs f (line_of b r j) field ≡ tall_line (j / 2)
  in_top j h = in_row r j h 2 top

  -- where the attributes valid at each column are the same in both rows
  module _ (valid : (c : ℕ) → c < hact_of b.page → attributes_at b.page chars attrs s c ≡ attributes_at b.page chars attrs r c) where
    in-bottom : (l : ℕ) → l < L → line_dots b chars attrs f (line_of b s l) field ≡ tall_line ((L + l) / 2)
    in-bottom l h =
        in_row s l h 3 bottom
        ∙ same-joined 0 (hact_of b.page) _ _ (λ c _ k.
        ap₂ (λ (v a : ℕ). column_of true (eqb (c % 2) 1) (dots_at b chars attrs f ((L + l) / 2) field v a)) (valid c (omega arith)) (same-cell c (omega arith)))

    -- [R-4 halves]
    -- line j of a top and a bottom row together shows scan line j / 2 of their cells in double width
    pub double-height : (j : ℕ) → j < 2 * L → pair_line j ≡ tall_line (j / 2)
    double-height j h = go (dec_lt j L)
      where
        go : Dec (j < L) → pair_line j ≡ tall_line (j / 2)
        go (yes k) = rw (lt-ltb j L k) (in_top j k)
        go (no g) =
            let l : j - L < L = omega (arith, h, g) in
            let e : (L + (j - L)) / 2 ≡ j / 2 = omega (arith, g) in
            rw (le-ltb j L (omega (arith, g))) (in-bottom (j - L) l ∙ ap tall_line e)

    -- [R-4 halves]
    -- so each of the L scan lines comes twice
    pub each_twice : (i : ℕ) → i < L → (pair_line (2 * i) ≡ tall_line i) × (pair_line (2 * i + 1) ≡ tall_line i)
    each_twice i h =
        let one : 2 * i / 2 ≡ i = omega arith in
        let two : (2 * i + 1) / 2 ≡ i = omega arith in
        (double-height (2 * i) (omega (arith, h)) ∙ ap tall_line one, double-height (2 * i + 1) (omega (arith, h)) ∙ ap tall_line two)

  -- [R-4 halves]
  -- in character mode nothing more is asked
  pub always-twice : field_mode b.page ≡ false → (i : ℕ) → i < L → (pair_line (2 * i) ≡ tall_line i) × (pair_line (2 * i + 1) ≡ tall_line i)
  unfolding attributes_at
  always-twice m = each_twice (λ c h. rw m (ap (λ (a : ℕ). latched (get_or attrs a 0) 0) (same-cell c h)))
