-- Two boards with their memories that fetch the same bytes, and what the beam carries along with them. Assumes nothing.
--     Alike             which these are
--     same-cell         every column shows the same cell
--     same-held, same-attributes   with the same attributes valid before it and at it
--     alike-place       so the place for clock n is the same
use Prim.Native.Nat.{ℕ, min, ◌+◌, ◌-◌, ◌*◌, ◌/◌, ◌%◌, ◌<◌}
use Rattle.std.specs.Prelude.{◌≡◌, Bool, List, ltb, get_or}
use Rattle.std.proofs.Math.Path.{sym, ap, ap₂}
use Rattle.std.proofs.Common.{◌∙◌, div-lt_iff_lt-mul, mod-lt, add-mul, one-mul}
use Rattle.std.proofs.Math.Decide.{dec_lt}
use native.Mathlib.Omega.{arith}
use Rattle.lists.specs.Choice.{pick}
use Rattle.raster.specs.declared.Buffer.{Buffer}
use Rattle.raster.specs.declared.Counts.{Counts}
use Rattle.raster.specs.Moves.{advance_by}
use Rattle.raster.specs.Beams.{row}
use Rattle.raster.specs.Wide.{code_of, is_wide, fetches_at}
use Rattle.raster.specs.Latch.{latched, last_set, same-last}
use Rattle.board.specs.declared.Page.{Page}
use Rattle.board.specs.declared.Board.{Board}
use Rattle.board.specs.Parts.{with_page}
use Rattle.timing.specs.Fields.{rows_of, hact_of, lines_of, ht_of, visible_of}
use Rattle.timing.specs.Laws.{row-shown}
use Rattle.fetch.specs.Rows.{code_at, row_start, fetch_at, fetched_of, moved_of, cell_at}
use Rattle.fetch.specs.Laws.{cell-moved}
use Rattle.latch.specs.Held.{set_in, byte_of, held_at, attributes_at}
use Rattle.place.specs.Place.{carried, placed, row_at, last_at, line_at, carried_before, place_at, clock_in, line_in, frame_in}
use Rattle.place.specs.Laws.{line-shown, line-idle}
use Rattle.alike.specs.Pages.{Same, same-buffer, same-counts, same-hact, same_rows, same_lines, same-visible, same-ht, same-vt, same-mode}

-- a board, and the memories that it is shown from
pub record View : Type 0 where
  pub board : Board
  pub chars : List ℕ
  pub attrs : List ℕ

abbrev pub view_of : Board → (chars attrs : List ℕ) → View
view_of b chars attrs = record { board = b; chars = chars; attrs = attrs }

abbrev pub page_of : View → Page
page_of v = v.board.page

-- the same bytes at a cell
abbrev pub SameBytes : View → View → (x : ℕ) → Type 0
SameBytes v w x = (get_or v.chars x 0 ≡ get_or w.chars x 0) × (get_or v.attrs x 0 ≡ get_or w.attrs x 0)

-- boards that differ in their pages alone, and these in IR2[7], the screen starts, and a version or chip byte that says the same at most; each row has the same code and start, and each cell that it fetches the same bytes
pub record Alike (v w : View) : Type 0 where
  pub board : with_page v.board (page_of w) ≡ w.board
  pub page : Same (page_of v) (page_of w)
  pub code : (r : ℕ) → r < rows_of (page_of v) → code_at (page_of v) v.chars r ≡ code_at (page_of w) w.chars r
  pub start : (r : ℕ) → r < rows_of (page_of v) → row_start (page_of v) v.chars r ≡ row_start (page_of w) w.chars r
  pub bytes : (r c : ℕ) → r < rows_of (page_of v) → c < hact_of (page_of v) → SameBytes v w (cell_at (page_of v) v.chars r c)

module _ {v w : View} (a : Alike v w) where
  abbrev p : Page
  p = page_of v

  abbrev q : Page
  q = page_of w

  abbrev H : ℕ
  H = hact_of p

  pub same-cell : (r c : ℕ) → r < rows_of p → cell_at p v.chars r c ≡ cell_at q w.chars r c
  unfolding fetch_at moved_of fetched_of
  same-cell r c h =
      sym (cell-moved p v.chars r c)
      ∙ parts (same-buffer a.page) (same-hact a.page) (a.code r h) (a.start r h)
      ∙ cell-moved q w.chars r c
    where
      moved : (n k : ℕ) → ℕ
      moved n k = pick (ltb c n) (pick (is_wide (code_of k)) (c / 2) c) (pick (is_wide (code_of k)) ((n + 1) / 2) n)

      parts : {u u' : Buffer} {n n' k k' x x' : ℕ} → u ≡ u' → n ≡ n' → k ≡ k' → x ≡ x' → advance_by u (moved n k) x ≡ advance_by u' (moved n' k') x'
      parts ue ne ke xe = rw (ue, ne, ke, xe)

  same_byte : (r c : ℕ) → r < rows_of p → c < H → get_or v.attrs (cell_at p v.chars r c) 0 ≡ get_or w.attrs (cell_at q w.chars r c) 0
  same_byte r c h l = (a.bytes r c h l).1 ∙ ap (λ (x : ℕ). get_or w.attrs x 0) (same-cell r c h)

  -- what a column sets
  same_set : (r c : ℕ) → r < rows_of p → c < H → set_in p v.chars v.attrs r c ≡ set_in q w.chars w.attrs r c
  same_set r c h l = parts (same-counts a.page) (a.code r h) (same-mode a.page) (same_byte r c h l)
    where
      parts : {g g' : Counts} {k k' x x' : ℕ} {m m' : Bool} → g ≡ g' → k ≡ k' → m ≡ m' → x ≡ x' → pick (fetches_at g (code_of k) c) (pick m x 0) 0 ≡ pick (fetches_at g' (code_of k') c) (pick m' x' 0) 0
      parts ge ke me xe = rw (ge, ke, me, xe)

  pub same-held : (r c : ℕ) → r < rows_of p → held_at p v.chars v.attrs r c ≡ held_at q w.chars w.attrs r c
  unfolding held_at
  same-held r c h =
      same-last (byte_of p v.chars v.attrs) (byte_of q w.chars w.attrs) 0 _ each
      ∙ ap (λ (n : ℕ). last_set (byte_of q w.chars w.attrs) 0 (r * n + min c n)) (same-hact a.page)
    where
      some : 0 < H
      some = omega arith

      few : (k : ℕ) → k < r * H + min c H → k / H < rows_of p
      few k l =
          let one : k / H < r + 1 = (div-lt_iff_lt-mul some).1 (omega (arith, l, add-mul r 1 H, one-mul H)) in
          omega (arith, one, h)

      each : (k : ℕ) → k < r * H + min c H → byte_of p v.chars v.attrs k ≡ byte_of q w.chars w.attrs k
      each k l =
          same_set (k / H) (k % H) (few k l) (mod-lt k some)
          ∙ ap (λ (n : ℕ). set_in q w.chars w.attrs (k / n) (k % n)) (same-hact a.page)

  pub same-attributes : (r c : ℕ) → r < rows_of p → c < H → attributes_at p v.chars v.attrs r c ≡ attributes_at q w.chars w.attrs r c
  unfolding attributes_at
  same-attributes r c h l = parts (same-mode a.page) (same-held r (c + 1) h) (same_byte r c h l)
    where
      parts : {m m' : Bool} {x x' y y' : ℕ} → m ≡ m' → x ≡ x' → y ≡ y' → pick m x (latched y 0) ≡ pick m' x' (latched y' 0)
      parts me xe ye = rw (me, xe, ye)

  -- ---- the place for clock n

  same_row : (r c : ℕ) → r < rows_of p → row_at p v.chars v.attrs r c ≡ row_at q w.chars w.attrs r c
  unfolding row_at
  same_row r c h =
      let cell = same-cell r c h in
      let start = a.start r h in
      let held = same-held r c h in
      let before = same-held r 0 h in
      let code = a.code r h in
      λ i. carried (row (cell i) (held i) (code i)) (row (start i) (before i) (code i))

  same-last-row : last_at p v.chars v.attrs ≡ last_at q w.chars w.attrs
  same-last-row =
      same_row (rows_of p - 1) (ht_of p) (omega arith)
      ∙ ap₂ (λ (r c : ℕ). row_at q w.chars w.attrs (r - 1) c) (same_rows a.page) (same-ht a.page)

  same-line-at : (c line : ℕ) → line_at p v.chars v.attrs c line ≡ line_at q w.chars w.attrs c line
  same-line-at c line = go (dec_lt line (visible_of p).0)
    where
      go : Dec (line < (visible_of p).0) → line_at p v.chars v.attrs c line ≡ line_at q w.chars w.attrs c line
      go (yes h) =
          sym (line-shown p v.chars v.attrs c line h)
          ∙ same_row (line / lines_of p) c (row-shown p line h)
          ∙ ap (λ (l : ℕ). row_at q w.chars w.attrs (line / l) c) (same_lines a.page)
          ∙ line-shown q w.chars w.attrs c line (omega (arith, h, same-visible a.page))
      go (no f) =
          sym (line-idle p v.chars v.attrs c line (omega (arith, f))) ∙ same-last-row ∙ line-idle q w.chars w.attrs c line (omega (arith, f, same-visible a.page))

  same-before : (c line frame : ℕ) → carried_before p v.chars v.attrs c line frame ≡ carried_before q w.chars w.attrs c line frame
  unfolding carried_before
  same-before c line frame =
      rw (same-line-at c line, same-line-at (ht_of p) (line - 1), same-last-row, same-ht a.page)

  pub alike-place : (n : ℕ) → place_at p v.chars v.attrs n ≡ place_at q w.chars w.attrs n
  unfolding place_at
  alike-place n =
      ap (placed (frame_in p n % 256) (line_in p n) (clock_in p n)) (same-before (clock_in p n) (line_in p n) (frame_in p n))
      ∙ ap₂ (λ (t u : ℕ). placed (n / t / u % 256) (n / t % u) (n % t) (carried_before q w.chars w.attrs (n % t) (n / t % u) (n / t / u))) (same-ht a.page) (same-vt a.page)
