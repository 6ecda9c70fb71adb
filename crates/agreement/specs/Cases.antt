-- 01, "Numbers on both sides": the worked cases, one table and one theorem. Assumes nothing.
use Rattle.std.specs.Prelude.{ℕ, zero, suc, ◌+◌, ◌-◌, ◌*◌, ◌/◌, ◌%◌, ◌≡◌, refl, Bool, true, false, ◌&&◌, List, [], ◌∷◌, eqb}
use Rattle.std.proofs.Math.Bool.{xor}
use Rattle.units.specs.Units.{clocks_of}
use Rattle.refusal.specs.Number.{number_of, beside_of}
use Rattle.raster.specs.Moves.{advance, advance_by, to_last, around}
use Rattle.raster.specs.Latch.{latched}
use Rattle.board.specs.declared.Page.{Page}
use Rattle.board.specs.State.{board_of}
use Rattle.board.specs.Range.{address_refused}
use Rattle.timing.specs.Fields.{ht_of, hfp_of, vt_of, buffer_of, cursor_of, counts_of, coded_of, lines_of, table_of, hbp_of, vsync_of, blink_of}
use Rattle.timing.specs.Check.{page_check}
use Rattle.fetch.specs.Rows.{code_at, row_start, cell_at, fetch_at, moved_of, fetched_of}
use Rattle.video.specs.declared.Look.{Look}
use Rattle.video.specs.Scene.{scene_of}
use Rattle.video.specs.Look.{look_of}
use Rattle.video.specs.Cell.{bits, lead, cell_bits, lit_bits, cell_dots}

-- HSYNC 8 and HBP 7, 24 rows of 10 lines, VFP 4, VSYNC 3, VBP 20, display on, 8 dots; EC, HACT, the buffer, screen start 1 and BKGND as given
unfoldable pub page : (ec hact first last start1 bkgnd : ℕ) → Page
page ec hact first last start1 bkgnd = record {
  version = 1;
  irs =
      72 ∷ (ec - 1) ∷ 26 ∷ 8 ∷ 23 ∷ (hact - 1) ∷ 0 ∷ 0 ∷ (first % 256) ∷ (16 * (last / 1024) + first / 256) ∷ 0 ∷ 0 ∷ 0 ∷ 0 ∷ 0 ∷ [];
  starts = record { start1 = start1; cursor = 0; start2 = 0 };
  switches = 1 + 4 * bkgnd;
  video = record { dots = record { 0 = 8 }; strike = 0; chip = 0 };
}

pub data Fact : Type 0 where
  HT HFP VT : ℕ → Fact
  frame : (clocks : ℕ) → Fact
  answers : (number : ℕ) → Fact
  misses : (clocks : ℕ) → Fact
  column : (row column address : ℕ) → Fact
  columns : (row count from : ℕ) → Fact
  row : (row address : ℕ) → Fact
  wraps : (address next : ℕ) → Fact
  dots_for : (word width : ℕ) → List ℕ → Fact
  levels : (attributes symbol surround : ℕ) → Fact

-- the address that a column of a row fetches, with the row table off
pub fetched : Page → ℕ → ℕ → ℕ
fetched p r c = cell_at p [] r c

-- columns 0 to n - 1 of row r fetch a, a + 1, ..
pub columns_from : Page → ℕ → ℕ → ℕ → Bool
columns_from p r zero a = true
columns_from p r (suc n) a = eqb (fetched p r n) (a + n) && columns_from p r n a

pub same : List ℕ → List ℕ → Bool
same [] [] = true
same [] (y ∷ ys) = false
same (x ∷ xs) [] = false
same (x ∷ xs) (y ∷ ys) = eqb x y && same xs ys

-- a lit dot as 1, any other as 0
pub ones : Look
ones = record { lit = false; symbol = 1; surround = 0 }

-- the look of a cell with AFLG and these attributes, away from cursor, underline line and strike line
pub look : Page → ℕ → Look
look p a = look_of (scene_of (board_of p) 1 0) (latched (128 + a) 0) false

pub holds : Page → Fact → Bool
holds p (HT n) = eqb (ht_of p) n
holds p (HFP n) = eqb (hfp_of p) n
holds p (VT n) = eqb (vt_of p) n
holds p (frame n) = eqb (clocks_of (counts_of p).vt (counts_of p).ht).0 n
holds p (answers n) = eqb (number_of (page_check p)) n
holds p (misses n) = eqb (beside_of (page_check p)) n
holds p (column r c a) = eqb (fetched p r c) a
holds p (columns r n a) = columns_from p r n a
holds p (row r a) = eqb (row_start p [] r) a
holds p (wraps a b) = eqb (advance (buffer_of p) a) b
holds p (dots_for w d l) = same (cell_dots ones w d) l
holds p (levels a x y) = eqb (look p a).symbol x && eqb (look p a).surround y

pub record Case : Type 0 where
  pub given : Page
  pub facts : List Fact

pub true_of : Page → List Fact → Bool
true_of p [] = true
true_of p (f ∷ fs) = holds p f && true_of p fs

pub all : List Case → Bool
all [] = true
all (k ∷ ks) = true_of k.given k.facts && all ks

pub cases : List Case
cases =
    -- A1, A5
    record { given = page 35 80 0 16383 0 0; facts = HT 102 ∷ HFP 7 ∷ answers 0 ∷ VT 267 ∷ frame 27234 ∷ [] }
    -- A2
    ∷ record { given = page 32 80 0 16383 0 0; facts = HFP 1 ∷ answers 15 ∷ misses 1 ∷ [] }
    -- A3
    ∷ record { given = page 33 80 0 16383 0 0; facts = HFP 3 ∷ answers 0 ∷ [] }
    -- A4
    ∷ record { given = page 33 81 0 16383 0 0; facts = HFP 2 ∷ answers 0 ∷ [] }
    -- A6
    ∷ record { given = page 35 80 0 1023 1000 0; facts = column 0 23 1023 ∷ column 0 24 0 ∷ row 1 56 ∷ [] }
    -- A7
    ∷ record { given = page 35 80 2048 3071 0 0; facts = columns 0 80 0 ∷ [] }
    -- A8
    ∷ record { given = page 35 80 4095 1023 0 0; facts = wraps 16383 0 ∷ wraps 1023 4095 ∷ [] }
    -- A9
    ∷ record {
      given = page 35 80 0 16383 0 0;
      facts =
          dots_for 0x041 12 (0 ∷ 1 ∷ 0 ∷ 0 ∷ 0 ∷ 0 ∷ 0 ∷ 1 ∷ 0 ∷ 0 ∷ 0 ∷ 0 ∷ [])
          ∷ dots_for 0x041 8 (1 ∷ 0 ∷ 0 ∷ 0 ∷ 0 ∷ 0 ∷ 1 ∷ 0 ∷ [])
          ∷ [];
    }
    -- A10: reverse and highlight
    ∷ record { given = page 35 80 0 16383 0 1; facts = levels (1 + 16) 2 0 ∷ [] }
    ∷ []

-- [case A1-A10] cases A1 to A10, one table and one theorem
-- [R-2 accepted]
pub worked : all cases ≡ true
unfolding all cases true_of holds columns_from fetched page same ones look page_check address_refused coded_of lines_of table_of hbp_of vsync_of blink_of counts_of buffer_of cursor_of code_at row_start fetch_at fetched_of moved_of cell_at advance advance_by to_last around scene_of look_of cell_dots lit_bits cell_bits lead bits xor
worked = refl
