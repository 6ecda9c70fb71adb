-- 02, R-7: the two chips and the groups. Assumes nothing.
--     graphics-dots     a graphics cell's ten dots are one bit of its code five times, then its neighbour five times
--     no-graphics       on chip A no cell is graphics
--     groups-line, groups-picture, groups-step    and groups that are not refused change nothing there
--     three-as-two      a version 3 page of chip A shows what version 2 with the same bytes shows
use Rattle.std.specs.Prelude.{ℕ, zero, suc, ◌+◌, ◌*◌, ◌/◌, ◌%◌, ◌^◌, ◌<◌, ◌≡◌, false, List, ◌++◌, eqb, replicate}
use Rattle.std.proofs.Math.Path.{refl, ap}
use Rattle.std.proofs.Common.{sym, ◌∙◌, arith}
use Rattle.lists.specs.Join.{same-joined}
use Rattle.refusal.specs.Number.{unrefused}
use Rattle.board.specs.declared.Page.{Page}
use Rattle.board.specs.declared.Board.{Board}
use Rattle.board.specs.Parts.{with_version, with_page}
use Rattle.board.specs.Layout.{layout_of}
use Rattle.board.specs.Modes.{chip_b}
use Rattle.board.specs.Range.{address_refused}
use Rattle.timing.specs.Fields.{hact_of, visible_of, coded_of, table_of, hbp_of, buffer_of}
use Rattle.timing.specs.Check.{page_check}
use Rattle.fetch.specs.Rows.{entry_of, code_at, row_start}
use Rattle.shape.specs.Font.{Font, font_of, font_line_of, pair_of, graphics_word, word_by, word_of}
use Rattle.shape.specs.Laws.{pair_lt}
use Rattle.video.specs.Cell.{bits, column_of}
use Rattle.video.specs.At.{lent_check, reading_of, graphics_by, scan_dots, dots_at}
use Rattle.line.specs.Line.{column_dots, line_dots, drawn_of}
use Rattle.picture.specs.Picture.{picture_dots, pictured_of}
use Rattle.step.specs.Signals.{clock_dots}
use Rattle.step.specs.Step.{stepped_of, step_of}
use Rattle.alike.specs.Views.{View, view_of, page_of, Alike}
use Rattle.alike.specs.Shown.{Shows, alike-shows}

-- ---- 002, "Graphics Logic"

two-fives : (a b : ℕ) → a < 2 → b < 2 → bits 10 (31 * a + 992 * b) ≡ replicate 5 a ++ replicate 5 b
unfolding bits
two-fives zero zero h l = refl
two-fives zero (suc zero) h l = refl
two-fives (suc zero) zero h l = refl
two-fives (suc zero) (suc zero) h l = refl
two-fives zero (suc (suc b)) h l = absurd (omega arith)
two-fives (suc zero) (suc (suc b)) h l = absurd (omega arith)
two-fives (suc (suc a)) b h l = absurd (omega arith)

-- line n of the code: CA0 to CA7
abbrev pub CA : (n code : ℕ) → ℕ
CA n code = code / 2 ^ n % 2

-- group g has CA(2g - 2) and CA(2g - 1)
pair_is : (g code : ℕ) → g < 4 → code < 256 → (pair_of (g + 1) code % 2 ≡ CA (2 * g) code) × (pair_of (g + 1) code / 2 ≡ CA (2 * g + 1) code)
pair_is zero code h l = (omega arith, omega arith)
pair_is (suc zero) code h l = (omega arith, omega arith)
pair_is (suc (suc zero)) code h l = (omega arith, omega arith)
pair_is (suc (suc (suc zero))) code h l = (omega arith, omega arith)
pair_is (suc (suc (suc (suc g)))) code h l = absurd (omega arith)

-- [R-7 dots]
pub graphics-dots : (g code : ℕ) → g < 4 → code < 256
    → bits 10 (graphics_word (g + 1) code) ≡ replicate 5 (CA (2 * g) code) ++ replicate 5 (CA (2 * g + 1) code)
unfolding graphics_word
graphics-dots g code h l =
    let pair = pair_is g code h l in
    two-fives (pair_of (g + 1) code % 2) (pair_of (g + 1) code / 2) (omega arith) (omega (arith, pair_lt (g + 1) code)) ∙ rw (pair.0, pair.1)

-- ---- chip A

-- [R-7 bit 5]
pub no-graphics : (p : Page) → chip_b p ≡ false → (attributes : ℕ) → graphics_by (reading_of p) attributes ≡ false
no-graphics p a attributes = rw a

-- a font with other groups, which are refused as its own are
module _ (b : Board) (a : chip_b b.page ≡ false) (chars attrs : List ℕ) (f : Font) (groups : List ℕ) where
  abbrev other : Font
  other = font_of f.words f.flags f.unshifted f.shifted groups

  same-cell : (scan field valid x : ℕ) → dots_at b chars attrs f scan field valid x ≡ dots_at b chars attrs other scan field valid x
  unfolding dots_at scan_dots word_of word_by font_line_of
  same-cell scan field valid x = rw a

  same_line : (line field : ℕ) → line_dots b chars attrs f line field ≡ line_dots b chars attrs other line field
  unfolding line_dots column_dots
  same_line line field = same-joined 0 (hact_of b.page) _ _ (λ c _ l. ap (column_of _ (eqb (c % 2) 1)) (same-cell _ field _ _))

  same-clock : (code held x : ℕ) → clock_dots b chars attrs f code held x ≡ clock_dots b chars attrs other code held x
  unfolding clock_dots
  same-clock code held x = rw (same-cell _ b.place.field _ x)

  module _ (lent : lent_check chars attrs f ≡ lent_check chars attrs other) where
    -- [R-7 groups]
    pub groups-line : (line field : ℕ) (out : List ℕ) → drawn_of b chars attrs f line field out ≡ drawn_of b chars attrs other line field out
    unfolding drawn_of
    groups-line line field out = rw (lent, same_line line field)

    pub groups-picture : (field : ℕ) (out : List ℕ) → pictured_of b chars attrs f field out ≡ pictured_of b chars attrs other field out
    unfolding pictured_of picture_dots
    groups-picture field out =
        rw (lent, same-joined 0 (visible_of b.page).0 (λ (line : ℕ). line_dots b chars attrs f line field) (λ (line : ℕ). line_dots b chars attrs other line field) (λ line _ l. same_line line field))

    pub groups-step : step_of b chars attrs f ≡ step_of b chars attrs other
    unfolding step_of stepped_of
    groups-step = rw (lent, same-clock _ _ _)

-- a version 3 page of chip A, and version 2 with the same bytes
module _ (v : View) (three : (page_of v).version ≡ 3) (a : (page_of v).video.chip ≡ 0) where
  abbrev two : View
  two = view_of (with_page v.board (with_version (page_of v) 2)) v.chars v.attrs

  as-two : Alike v two
  unfolding layout_of coded_of table_of buffer_of entry_of code_at row_start
  as-two = record {
    board = refl;
    page = record { modes = rw three; chip = rw (three, a); irs = refl; switches = refl; dots = refl; strike = refl; cursor = refl; others = λ n _. refl; low = refl };
    code = λ r _. refl;
    start = λ r _. refl;
    bytes = λ r c _ _. (refl, refl);
  }

  same_check : page_check (page_of v) ≡ page_check (page_of two)
  unfolding page_check address_refused coded_of table_of hbp_of
  same_check = rw (three, a)

  -- [R-7 version]
  pub three-as-two : page_check (page_of v) ≡ unrefused → Shows v two
  three-as-two ok = alike-shows as-two refl refl ok (sym same_check ∙ ok)
