-- What a drawer makes of a cell's number and the tables is what the scan line makes of the cell. Assumes nothing.
use Rattle.std.specs.Prelude.{ℕ, zero, suc, ◌+◌, ◌*◌, ◌/◌, ◌%◌, ◌≤◌, ◌<◌, ◌≡◌, refl, Bool, true, false, ◌&&◌, List, ◌++◌, leb, eqb, length, get_or, take, drop}
use Rattle.std.proofs.Common.{sym, ◌∙◌, length-take-le}
use Rattle.std.proofs.Math.Numerals.{add-one}
use native.Mathlib.Omega.{arith}
use borrow.Author.Tests.{eqb-true, eqb-false, lt-leb, le-leb}
use Rattle.std.proofs.Math.ListN.{get_or-append}
use Rattle.lists.specs.Choice.{pick, pick-lt}
use Rattle.lists.specs.Join.{joined, join-element}
use Rattle.lists.specs.Tab.{tab, length-tab, get_or-tab, tab-ends}
use Rattle.raster.specs.declared.Buffer.{Buffer}
use Rattle.raster.specs.declared.Cell.{Cell}
use Rattle.raster.specs.Moves.{cell, advance_by}
use Rattle.raster.specs.Latch.{latched, last_set, sets-or}
use Rattle.board.specs.declared.Board.{Board}
use Rattle.timing.specs.Laws.{Accepted}
use Rattle.shape.specs.declared.FontLine.{FontLine}
use Rattle.shape.specs.declared.FontLines.{FontLines}
use Rattle.shape.specs.Font.{font_line_at, word_by}
use Rattle.shape.specs.Laws.{by-small}
use Rattle.video.specs.declared.Scene.{Scene}
use Rattle.video.specs.declared.Look.{Look}
use Rattle.video.specs.declared.Reading.{Reading}
use Rattle.video.specs.Scene.{scene_of}
use Rattle.video.specs.Look.{look_of}
use Rattle.video.specs.At.{Content, reading_of, graphics_by, scan_dots, fetched_content}
use Rattle.dots.specs.Stores.{wide_of}
use Rattle.dots.specs.Width.{shades, cell-shades}
use Rattle.tables.specs.Tables.{mark_of, sign_of, number_for, held_by, cell_by, levels_by, levels_of, levels_at, shown_word, words_at}
use Rattle.tables.specs.Marks.{mark-look, mark-lt, levels-lt, symbol-of, under_of_lem}

pub length-words : (words flags : List ℕ) (lines : FontLines) (d s : ℕ) → length (words_at words flags lines d s) ≡ 512
unfolding words_at
length-words words flags lines d s = length-tab 512 _

pub length-levels : (b : Board) (field s : ℕ) → length (levels_at b field s) ≡ 128
unfolding levels_at
length-levels b field s = length-tab 128 _

-- a table's front, when the loop over it has come to its end
pub tab-front : (f : ℕ → ℕ) (n : ℕ) (table front : List ℕ) (i : ℕ) → front ≡ tab i f ++ drop i (take n table) → n ≤ length table
    → length (take n table) ≤ i → i ≤ length (take n table) → front ≡ tab n f
tab-front f n table front i e room l h = rw (length-take-le n table room) at (tab-ends f (take n table) front i e (omega arith))

-- a sign has its mode and its code
module _ (code : ℕ) (h : code < 256) where
  pub sign-lt : (g : Bool) → sign_of g code < 512
  sign-lt true = omega arith
  sign-lt false = omega arith

  pub sign-mode : (g : Bool) → leb 256 (sign_of g code) ≡ g
  sign-mode true = le-leb 256 (code + 256) (omega arith)
  sign-mode false = lt-leb 256 (code + 0) (omega arith)

  pub sign-code : (g : Bool) → sign_of g code % 256 ≡ code
  sign-code true = omega arith
  sign-code false = omega arith

-- a number once or not at all
pub bit-times : (b n : ℕ) → b < 2 → b * n ≤ n
bit-times zero n h = omega arith
bit-times (suc zero) n h = omega arith
bit-times (suc (suc b)) n h = absurd (omega arith)

-- and is made of attribute bit 5, which on chip A adds nothing
pub sign-by : (r : Reading) (attributes code : ℕ) → code + attributes / 32 % 2 * pick r.graphics 256 0 ≡ sign_of (graphics_by r attributes) code
sign-by r attributes code = go r.graphics (eqb (attributes / 32 % 2) 1) refl
  where
    go : (g t : Bool) → eqb (attributes / 32 % 2) 1 ≡ t → code + attributes / 32 % 2 * pick g 256 0 ≡ code + pick (g && t) 256 0
    go true true e = omega (arith, eqb-true (attributes / 32 % 2) 1 e)
    go true false e = omega (arith, eqb-false (attributes / 32 % 2) 1 e)
    go false t e = omega arith

-- a cell's number taken apart
module _ (r : Reading) (k : Content) (h : k.code < 256) where
  abbrev graphics : Bool
  graphics = graphics_by r k.attributes

  pub sign-of : number_for r k % 512 ≡ sign_of graphics k.code
  sign-of = omega (arith, sign-lt k.code h graphics)

  pub mark-of : number_for r k / 512 ≡ mark_of k.attributes k.here
  mark-of = omega (arith, sign-lt k.code h graphics)

  pub number_lt : number_for r k < 65536
  number_lt = omega (arith, sign-lt k.code h graphics, mark-lt k.attributes k.here)

  -- the word of its sign
  pub word-of : (words flags : List ℕ) (line : FontLine) (d : ℕ) → shown_word words flags line d (number_for r k % 512) ≡ wide_of (word_by words flags line graphics k.code) d
  unfolding shown_word
  word-of words flags line d = rw (sign-of, sign-mode k.code h graphics, sign-code k.code h graphics)

-- ---- what the tables hold

looked : (f : ℕ → ℕ) (n : ℕ) (xs rest : List ℕ) (i : ℕ) → xs ≡ tab n f ++ rest → i < n → get_or xs i 0 ≡ f i
looked f n xs rest i e h = rw e (get_or-append (tab n f) rest 0 i (rw (length-tab n f) h)) ∙ get_or-tab n f i h

-- a code that is shown is a byte
pub shown-lt : (k : Reading) (chars attrs : List ℕ) (held a : ℕ) → ((i : ℕ) → get_or chars i 0 < 256) → (fetched_content k chars attrs held a).code < 256
shown-lt k chars attrs held a bytes = pick-lt 256 (k.hidden && leb 128 (get_or attrs a 0)) 0 _ (omega arith) (bytes a)

-- of a row its cells, of a scan line the levels of a mark
module _ (k : Reading) (chars attrs : List ℕ) (buffer : Buffer) (held start n : ℕ) (cells rest : List ℕ) (e : cells ≡ tab n (cell_by k chars attrs buffer held start) ++ rest) where
  pub gathered : (c : ℕ) → c < n → get_or cells c 0 ≡ number_for k (fetched_content k chars attrs (held_by k.runs attrs buffer held start c) (advance_by buffer c start))
  unfolding cell_by
  gathered c h = looked _ n cells rest c e h

  pub gathered-lt : ((i : ℕ) → get_or chars i 0 < 256) → (c : ℕ) → c < n → get_or cells c 0 < 65536
  gathered-lt bytes c h =
      let valid = held_by k.runs attrs buffer held start c in
      let a = advance_by buffer c start in
      rw (gathered c h) (number_lt k (fetched_content k chars attrs valid a) (shown-lt k chars attrs valid a bytes))

-- where the walk along the row stands: what is valid before the cell, its number, and what is valid after it
module _ (k : Reading) (chars attrs : List ℕ) (buffer : Buffer) (held start c : ℕ) (x : Cell) (e : x ≡ cell (advance_by buffer c start)) (valid : ℕ) (q : valid ≡ held_by k.runs attrs buffer held start c) where
  pub as-cell : (v : ℕ) → v ≡ number_for k (fetched_content k chars attrs valid x.address) → v ≡ cell_by k chars attrs buffer held start c
  unfolding cell_by
  as-cell v d = rw (e, q) at d

  pub runs_on : (y : ℕ) → y ≡ pick k.runs (latched (get_or attrs x.address 0) valid) valid → y ≡ held_by k.runs attrs buffer held start (c + 1)
  unfolding held_by last_set
  runs_on y d = d ∙ rw (q, e, add-one c) (sym (sets-or k.runs (get_or attrs (advance_by buffer c start) 0) (held_by k.runs attrs buffer held start c)))

pub not-run : (runs : Bool) (attrs : List ℕ) (buffer : Buffer) (held start : ℕ) → held ≡ held_by runs attrs buffer held start 0
unfolding held_by last_set
not-run runs attrs buffer held start = refl

pub looked-up : (s : Scene) (a : ℕ) (here : Bool) (looks rest : List ℕ) → looks ≡ tab 128 (levels_of s) ++ rest → get_or looks (mark_of a here) 0 ≡ levels_of s (mark_of a here)
looked-up s a here looks rest e = looked (levels_of s) 128 looks rest (mark_of a here) e (mark-lt a here)

-- of n scan lines, end to end, scan line s
pub levels-at : (b : Board) (field : ℕ) (xs rest : List ℕ) (n s i : ℕ) → xs ≡ joined 0 n (levels_at b field) ++ rest → s < n → i < 128
    → get_or xs (s * 128 + i) 0 ≡ levels_of (scene_of b s field) i
unfolding levels_at
levels-at b field xs rest n s i e h l = join-element (levels_at b field) 128 (length-levels b field) xs rest n s i e h l ∙ get_or-tab 128 _ i l

pub word-at : (words flags : List ℕ) (lines : FontLines) (d : ℕ) (xs rest : List ℕ) (n s i : ℕ) → xs ≡ joined 0 n (words_at words flags lines d) ++ rest → s < n → i < 512
    → get_or xs (s * 512 + i) 0 ≡ shown_word words flags (font_line_at lines s) d i
unfolding words_at
word-at words flags lines d xs rest n s i e h l =
    join-element (words_at words flags lines d) 512 (length-words words flags lines d) xs rest n s i e h l ∙ get_or-tab 512 _ i l

-- the levels of a mark on a scan line are those of one of sixteen looks
pub levels-few : (b : Board) (field s i : ℕ) → levels_of (scene_of b s field) i < 16
unfolding levels_of
levels-few b field s i = levels-lt b s field i ((scene_of b s field).gate && eqb (i / 64 % 2) 1)

-- a cell from its mark and its word
module _ (b : Board) (words flags : List ℕ) (line : FontLine) (scan field : ℕ) (a : Accepted b.page) (k : Content) (v : ℕ)
    (e : v ≡ levels_of (scene_of b scan field) (mark_of k.attributes k.here)) where
  abbrev d : ℕ
  d = b.page.video.dots.0

  abbrev word : ℕ
  word = word_by words flags line (graphics_by (reading_of b.page) k.attributes) k.code

  abbrev here : Bool
  here = (scene_of b scan field).gate && k.here

  abbrev look : Look
  look = look_of (scene_of b scan field) k.attributes here

  levelled : v ≡ levels_by look
  levelled = e ∙ mark-look (scene_of b scan field) k.attributes k.here

  pub by_word : shades (v % 4) (v / 4) d (wide_of word d) ≡ scan_dots b (word_by words flags line) scan field k
  unfolding scan_dots
  by_word =
      rw (levelled, symbol-of b scan field k.attributes here, under_of_lem b scan field k.attributes here)
      (cell-shades look word d (by-small _ _ _ _ _) a.most)
