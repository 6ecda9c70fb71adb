-- 02, R-5: a sheet that is moved to a row table, and a page that is moved back, show the same. Assumes nothing.
--     as-table-alike      the table says where each row starts, and no row fetches a cell of it
--     as-table-shows      so the moved page shows the same
--     as-sheet-alike       the rows of a page that is moved back follow one another
--     as-sheet-shows       so it shows the same, and moved there again too (sheet-then-table)
--     table-then-sheet   only screen start 2 differs, and of memory the table's cells (memory-back)
use Prim.Native.Nat.{ℕ, zero, suc, ◌+◌, ◌-◌, ◌*◌, ◌/◌, ◌%◌, ◌≤◌, ◌<◌}
use Rattle.std.specs.Prelude.{◌≡◌, true, length, get_or, set, take, drop, Ok}
use Rattle.std.proofs.Math.Path.{refl, sym, ap, ap₂}
use Rattle.std.proofs.Common.{◌∙◌, zero-mul, add-one, length-append, length-drop, get_or-set_other, get_or-take, get_or-drop, get_or-append-add, length-take-le}
use Rattle.std.proofs.Math.Bool.{false, not, true≢false}
use mathlib.Core.List.{List, [], ◌∷◌, ◌++◌}
use Rattle.std.proofs.Math.Nat.{suc-mul}
use Rattle.std.proofs.Math.Decide.{dec_lt}
use native.Mathlib.Omega.{arith}
use borrow.Author.Tests.{not-true, not-false, eqb-true, eqb-false, eq-eqb, ne_eqb}
use Rattle.std.proofs.Math.ListN.{length-set, get_or-append}
use Rattle.std.proofs.lemmas.List.{set-get_or}
use Rattle.std.proofs.Math.Seq.{get_or-set_same}
use Rattle.lists.specs.Tab.{tab, length-tab, get_or-tab}
use Rattle.lists.specs.Search.{any_below, none_of, any_none, any_some, first-is}
use Rattle.raster.specs.declared.Buffer.{Buffer}
use Rattle.raster.specs.Moves.{advance_by, advance_by-zero, advance_by-add}
use Rattle.refusal.specs.Number.{unrefused, wrong_size, value_or}
use Rattle.board.specs.declared.Page.{Page}
use Rattle.board.specs.declared.Board.{Board}
use Rattle.board.specs.Range.{memory_refused}
use Rattle.timing.specs.Check.{page_check}
use Rattle.timing.specs.Fields.{ir, coded_of, rows_of, hact_of, table_of, buffer_of}
use Rattle.timing.specs.Laws.{call-passed, buffer-bounded, range-ok, call_ok, call-page}
use Rattle.fetch.specs.Rows.{byte_at, entry_of, row_start, cell_at, fetched_of}
use Rattle.fetch.specs.Laws.{no-codes, entry_lt, row-start-lt, start-table, start-sheet, cell-shown}
use Rattle.board.specs.Parts.{with_irs, with_starts, with_page}
use Rattle.catalogue.specs.ToTable.{fetches_cell, table_size, table_places, unfetched_at, table_place, table_byte, as_table_page, as_table_chars, own_check, as_table_check, as_table, as_table_left}
use Rattle.catalogue.specs.ToSheet.{follows_row, rows_apart, as_sheet_page, as_sheet_check, as_sheet}
use Rattle.catalogue.specs.Marks.{Movable, Returnable, as-table-passed, as-sheet-passed}
use Rattle.alike.specs.Pages.{Same, same_coded, same-buffer, same-hact, same_rows, same-accepted, video-passed, same-state}
use Rattle.alike.specs.Views.{view_of, Alike}
use Rattle.alike.specs.Shown.{Shows, shows-on, alike-shows}
use Rattle.agreement.specs.Rows.{nth_cell, cell_in}

-- a page with other registers and screen starts
abbrev pub changed : Page → (irs : List ℕ) → (start1 start2 : ℕ) → Page
changed p irs s t = with_starts (with_irs p irs) (record { start1 = s; cursor = p.starts.cursor; start2 = t })

-- as `alike` has it, if of the registers IR2 alone is another and keeps its seven low bits
kept-page : (p : Page) (x s t : ℕ) → 2 < length p.irs → x % 128 ≡ ir p 2 % 128 → Same p (changed p (set p.irs 2 x) s t)
kept-page p x s t registers low = record {
  modes = refl;
  chip = refl;
  irs = refl;
  switches = refl;
  dots = refl;
  strike = refl;
  cursor = refl;
  others = λ n other. sym (get_or-set_other p.irs 2 n x 0 (eqb-false n 2 other));
  low = sym (ap (λ (k : ℕ). k % 128) (get_or-set_same p.irs 2 x 0 registers) ∙ low);
}

-- one board and character memory show what another board and memory show, with any attribute memory and font
abbrev pub ShowsSame : Board → (chars : List ℕ) → Board → (chars' : List ℕ) → Type 0
ShowsSame b chars n chars' = (attrs : List ℕ) → Shows (view_of b chars attrs) (view_of n chars' attrs)

set_twice : (l : List ℕ) (i a b : ℕ) → set (set l i a) i b ≡ set l i b
set_twice [] i a b = refl
set_twice (x ∷ l) zero a b = refl
set_twice (x ∷ l) (suc i) a b = ap (λ (k : List ℕ). x ∷ k) (set_twice l i a b)

-- a part of a list replaced
module _ (xs ys : List ℕ) (a n : ℕ) (long : length ys ≡ n) (room : a + n ≤ length xs) where
  abbrev put : List ℕ
  put = take a xs ++ (ys ++ drop (a + n) xs)

  front : length (take a xs) ≡ a
  front = length-take-le a xs (omega (arith, room))

  pub put_in : (i : ℕ) → i < n → get_or put (a + i) 0 ≡ get_or ys i 0
  put_in i h =
      ap (λ (k : ℕ). get_or put (k + i) 0) (sym front)
      ∙ get_or-append-add (take a xs) (ys ++ drop (a + n) xs) i 0
      ∙ get_or-append ys (drop (a + n) xs) 0 i (rw long h)

  pub put-out : (x : ℕ) → (a ≤ x → x < a + n → ⊥) → get_or put x 0 ≡ get_or xs x 0
  put-out x f = go (dec_lt x a) (dec_lt x (a + n))
    where
      j : ℕ
      j = x - (a + n)

      go : Dec (x < a) → Dec (x < a + n) → get_or put x 0 ≡ get_or xs x 0
      go (yes l) d = get_or-append (take a xs) (ys ++ drop (a + n) xs) 0 x (rw front l) ∙ get_or-take a xs x 0 l
      go (no g) (yes l) = absurd (f (omega (arith, g)) l)
      go (no g) (no k) =
          let e : x ≡ length (take a xs) + (length ys + j) = omega (arith, front, long, k) in
          let back : a + n + j ≡ x = omega (arith, k) in
          ap (λ (i : ℕ). get_or put i 0) e
          ∙ get_or-append-add (take a xs) (ys ++ drop (a + n) xs) (length ys + j) 0
          ∙ get_or-append-add ys (drop (a + n) xs) j 0
          ∙ get_or-drop (a + n) xs j 0
          ∙ ap (λ (i : ℕ). get_or xs i 0) back

  pub length-put : length put ≡ length xs
  length-put =
      length-append (take a xs) (ys ++ drop (a + n) xs)
      ∙ ap₂ (λ (i k : ℕ). i + k) front (length-append ys (drop (a + n) xs) ∙ ap₂ (λ (i k : ℕ). i + k) long (length-drop (a + n) xs))
      ∙ omega (arith, room)

-- ---- moving there

module _ (b : Board) (chars : List ℕ) (m : Movable b chars) (registers : 2 < length b.page.irs) where
  abbrev p : Page
  p = b.page

  abbrev place : ℕ
  place = table_place p chars

  abbrev irs' : List ℕ
  irs' = set p.irs 2 (ir p 2 % 128 + 128)

  abbrev q : Page
  q = changed p irs' p.starts.start1 place

  abbrev chars' : List ℕ
  chars' = as_table_chars p chars place

  same-page : Same p q
  same-page = kept-page p (ir p 2 % 128 + 128) p.starts.start1 place registers (omega arith)

  table_on : table_of q ≡ true
  unfolding table_of
  table_on =
      let e = get_or-set_same p.irs 2 (ir p 2 % 128 + 128) 0 registers in
      eq-eqb (ir q 2 / 128 % 2) 1 (omega (arith, e))

  plain : coded_of q ≡ false
  plain = sym (same_coded same-page) ∙ m.page.coded m.off

  room : place + table_size p ≤ length chars
  room = omega (arith, m.found, m.whole)

  bytes-long : length (tab (table_size p) (table_byte p chars)) ≡ table_size p
  bytes-long = length-tab (table_size p) (table_byte p chars)

  -- the table's bytes
  byte-tabled : (i : ℕ) → i < table_size p → byte_at chars' (place + i) ≡ table_byte p chars i
  unfolding as_table_chars
  byte-tabled i h =
      let e : (place + i) % 16384 ≡ place + i = omega (arith, h, m.found) in
      rw e (put_in chars (tab (table_size p) (table_byte p chars)) place (table_size p) bytes-long room i h ∙ get_or-tab (table_size p) (table_byte p chars) i h)

  entry-tabled : (r : ℕ) → r < rows_of p → entry_of q chars' r ≡ row_start p chars r
  unfolding entry_of table_byte
  entry-tabled r h =
      let x = row_start p chars r in
      let lt = row-start-lt p chars m.page r in
      let low = byte-tabled (2 * r) (omega (arith, h)) in
      let high = byte-tabled (2 * r + 1) (omega (arith, h)) in
      let at_high : place + 2 * r + 1 ≡ place + (2 * r + 1) = omega arith in
      let even : 2 * r % 2 ≡ 0 = omega arith in
      let odd : (2 * r + 1) % 2 ≡ 1 = omega arith in
      let half : 2 * r / 2 ≡ r = omega arith in
      let half-too : (2 * r + 1) / 2 ≡ r = omega arith in
      rw (at_high, low, high, even, odd, half, half-too) (omega (arith, lt))

  fetches : (r c : ℕ) → r < rows_of p → c < hact_of p → fetches_cell p chars (cell_at p chars r c) ≡ true
  unfolding fetches_cell
  fetches r c h l =
      any_some _ (rows_of p) r h
      (any_some _ (fetched_of p chars r) (nth_cell b chars r c) (cell_in b chars r c l) (eq-eqb _ _ (cell-shown p chars r c l)))

  -- no row fetches a cell of the table
  not-in-table : (r c : ℕ) → r < rows_of p → c < hact_of p → place ≤ cell_at p chars r c → cell_at p chars r c < place + table_size p → ⊥
  unfolding table_place unfetched_at
  not-in-table r c h l low high =
      let x = cell_at p chars r c in
      let free : any_below (λ i. fetches_cell p chars (place + i)) (table_size p) ≡ false = not-true _ (first-is (unfetched_at p chars) (table_places p) m.found).0 in
      let e : place + (x - place) ≡ x = omega (arith, low) in
      let none = none_of (λ i. fetches_cell p chars (place + i)) (table_size p) free (x - place) (omega (arith, low, high)) in
      true≢false (sym (fetches r c h l) ∙ ap (fetches_cell p chars) (sym e) ∙ none)

  -- of memory nothing but the table's cells has changed
  pub kept-cells : (x : ℕ) → (place ≤ x → x < place + table_size p → ⊥) → get_or chars' x 0 ≡ get_or chars x 0
  unfolding as_table_chars
  kept-cells x f = put-out chars (tab (table_size p) (table_byte p chars)) place (table_size p) bytes-long room x f

  pub as-table-alike : (attrs : List ℕ) → Alike (view_of b chars attrs) (view_of (with_page b q) chars' attrs)
  as-table-alike attrs = record {
    board = refl;
    page = same-page;
    code = λ r h. no-codes p chars (m.page.coded m.off) r ∙ sym (no-codes q chars' plain r);
    start = λ r h. sym (entry-tabled r h) ∙ start-table q chars' r table_on;
    bytes = λ r c h l. (sym (kept-cells (cell_at p chars r c) (not-in-table r c h l)), refl);
  }

  page-ok : page_check p ≡ unrefused
  unfolding own_check
  page-ok = call-page b (wrong_size (memory_refused (length chars))) false false m.own

  -- the moved page is accepted
  pub as-table-accepted : page_check (as_table_page p place) ≡ unrefused
  unfolding as_table_page
  as-table-accepted = same-accepted same-page page-ok m.page.start1 (omega (arith, m.found)) (video-passed p page-ok) (rw plain)

  chars-whole : length chars' ≡ length chars
  unfolding as_table_chars
  chars-whole = length-put chars (tab (table_size p) (table_byte p chars)) place (table_size p) bytes-long room

  -- so it shows the same
  pub as-table-shown : ShowsSame b chars (with_page b (as_table_page p place)) chars'
  unfolding as_table_page
  as-table-shown attrs = alike-shows (as-table-alike attrs) (sym chars-whole) refl page-ok as-table-accepted

  -- ---- there and back

  row_zero : row_start p chars 0 ≡ p.starts.start1
  row_zero =
      sym (start-sheet p chars 0 m.off)
      ∙ ap (λ (k : ℕ). advance_by (buffer_of p) k p.starts.start1) (zero-mul (hact_of p))
      ∙ advance_by-zero (buffer_of p) p.starts.start1 (omega (arith, m.page.start1))

  row_next : (r : ℕ) → row_start p chars (r + 1) ≡ advance_by (buffer_of p) (hact_of p) (row_start p chars r)
  row_next r =
      let B = buffer_of p in
      let H = hact_of p in
      let more : (r + 1) * H ≡ H + r * H = omega (arith, suc-mul r H, ap (λ (k : ℕ). k * H) (add-one r)) in
      sym (start-sheet p chars (r + 1) m.off)
      ∙ ap (λ (k : ℕ). advance_by B k p.starts.start1) more
      ∙ advance_by-add B (buffer-bounded p) H (r * H) p.starts.start1 (omega (arith, m.page.start1))
      ∙ ap (advance_by B H) (start-sheet p chars r m.off)

  -- nothing refuses the way back
  rows-follow : rows_apart q chars' ≡ false
  unfolding rows_apart follows_row
  rows-follow =
      any_none _ (rows_of q - 1) (λ r h.
      let rows = same_rows same-page in
      let here = entry-tabled r (omega (arith, h, rows)) in
      let next = entry-tabled (r + 1) (omega (arith, h, rows)) in
      ap not (eq-eqb _ _ (next ∙ row_next r ∙ ap₂ (λ (u : Buffer) (w : ℕ). advance_by u w (row_start p chars r)) (same-buffer same-page) (same-hact same-page)
      ∙ ap (advance_by (buffer_of q) (hact_of q)) (sym here))))

  own-as-table : own_check (with_page b q) (length chars') ≡ unrefused
  unfolding own_check as_table_page
  own-as-table =
      let all = call-passed b (wrong_size (memory_refused (length chars))) false false m.own in
      let state = sym (same-state b q same-page) ∙ range-ok b all.state in
      let sized : wrong_size (memory_refused (length chars')) ≡ unrefused = rw chars-whole all.lent-fine in
      call_ok (with_page b q) (wrong_size (memory_refused (length chars'))) sized as-table-accepted state

  as-sheet-done : as_sheet_check (with_page b q) chars' ≡ unrefused
  unfolding as_sheet_check
  as-sheet-done = rw (own-as-table, table_on, plain, rows-follow)

  -- a register is a byte
  module _ (byte : ir p 2 < 256) where
    low_bits : ir q 2 % 128 ≡ ir p 2
    unfolding table_of
    low_bits =
        let e = get_or-set_same p.irs 2 (ir p 2 % 128 + 128) 0 registers in
        let f : ir p 2 / 128 % 2 ≡ 1 → ⊥ = λ z. true≢false (sym (eq-eqb (ir p 2 / 128 % 2) 1 z) ∙ m.off) in
        omega (arith, e, byte, f)

    registers-back : set irs' 2 (ir q 2 % 128) ≡ p.irs
    registers-back = set_twice p.irs 2 (ir p 2 % 128 + 128) (ir q 2 % 128) ∙ ap (set p.irs 2) low_bits ∙ set-get_or p.irs 2 0

    -- there and back: nothing but screen start 2 has changed
    pub returned : as_sheet (with_page b q) chars' ≡ Ok (with_page b (changed p p.irs p.starts.start1 place))
    unfolding as_sheet as_sheet_page
    returned =
        let start = entry-tabled 0 (omega arith) ∙ row_zero in
        rw as-sheet-done (ap₂ (λ (l : List ℕ) (x : ℕ). Ok (with_page b (changed p l x place))) registers-back start)

-- ---- moving back

module _ (b : Board) (chars : List ℕ) (m : Returnable b chars) (registers : 2 < length b.page.irs) where
  abbrev sheet_irs : List ℕ
  sheet_irs = set b.page.irs 2 (ir b.page 2 % 128)

  abbrev first : ℕ
  first = entry_of b.page chars 0

  abbrev sheet : Page
  sheet = changed b.page sheet_irs first b.page.starts.start2

  sheet-same : Same b.page sheet
  sheet-same = kept-page b.page (ir b.page 2 % 128) first b.page.starts.start2 registers (omega arith)

  sheet-off : table_of sheet ≡ false
  unfolding table_of
  sheet-off =
      let e = get_or-set_same b.page.irs 2 (ir b.page 2 % 128) 0 registers in
      ne_eqb (ir sheet 2 / 128 % 2) 1 (λ z. omega (arith, e, z))

  sheet-plain : coded_of sheet ≡ false
  sheet-plain = sym (same_coded sheet-same) ∙ m.codeless

  -- the rows follow one another
  follows_on : (r : ℕ) → r < rows_of b.page → entry_of b.page chars r ≡ advance_by (buffer_of b.page) (r * hact_of b.page) first
  unfolding rows_apart follows_row
  follows_on zero h =
      sym (ap (λ (k : ℕ). advance_by (buffer_of b.page) k first) (zero-mul (hact_of b.page)) ∙ advance_by-zero (buffer_of b.page) first (entry_lt b.page chars 0))
  follows_on (suc r) h =
      let B = buffer_of b.page in
      let H = hact_of b.page in
      let next = none_of (λ k. not (follows_row b.page chars k)) (rows_of b.page - 1) m.joined r (omega (arith, h)) in
      let is : entry_of b.page chars (r + 1) ≡ advance_by B H (entry_of b.page chars r) = eqb-true _ _ (not-false _ next) in
      let more : H + r * H ≡ suc r * H = omega (arith, suc-mul r H) in
      ap (entry_of b.page chars) (sym (add-one r))
      ∙ is
      ∙ ap (advance_by B H) (follows_on r (omega (arith, h)))
      ∙ sym (advance_by-add B (buffer-bounded b.page) H (r * H) first (entry_lt b.page chars 0))
      ∙ ap (λ (k : ℕ). advance_by B k first) more

  pub as-sheet-alike : (attrs : List ℕ) → Alike (view_of b chars attrs) (view_of (with_page b sheet) chars attrs)
  as-sheet-alike attrs = record {
    board = refl;
    page = sheet-same;
    code = λ r h. no-codes b.page chars m.codeless r ∙ sym (no-codes sheet chars sheet-plain r);
    start = λ r h.
        sym (start-table b.page chars r m.on)
        ∙ follows_on r h
        ∙ ap₂ (λ (u : Buffer) (n : ℕ). advance_by u (r * n) first) (same-buffer sheet-same) (same-hact sheet-same)
        ∙ start-sheet sheet chars r sheet-off;
    bytes = λ r c h l. (refl, refl);
  }

  sheet-page-ok : page_check b.page ≡ unrefused
  unfolding own_check
  sheet-page-ok = call-page b (wrong_size (memory_refused (length chars))) false false m.own

  pub as-sheet-accepted : page_check (as_sheet_page b.page chars) ≡ unrefused
  unfolding as_sheet_page
  as-sheet-accepted = same-accepted sheet-same sheet-page-ok (omega (arith, entry_lt b.page chars 0)) m.page.start2 (video-passed b.page sheet-page-ok) (rw sheet-plain)

  -- so it shows the same
  pub as-sheet-shown : ShowsSame b chars (with_page b (as_sheet_page b.page chars)) chars
  unfolding as_sheet_page
  as-sheet-shown attrs = alike-shows (as-sheet-alike attrs) refl refl sheet-page-ok as-sheet-accepted

-- ---- as the calls answer

-- [R-5 same]
-- a sheet that `to_table` moves shows the same: it is accepted, its pictures are the same in every field and both attribute modes, and so are signals, address and dots of every step. Here and below a
-- board's registers reach to IR2, as those of every board in the code do
pub as-table-shows : (b : Board) (chars : List ℕ) → 2 < length b.page.irs → as_table_check b chars ≡ unrefused → ShowsSame b chars (value_or b (as_table b chars)) (as_table_left b chars)
unfolding as_table as_table_left
as-table-shows b chars registers ok = rw ok (as-table-shown b chars (as-table-passed b chars ok) registers)

module _ (b : Board) (chars : List ℕ) (registers : 2 < length b.page.irs) where
  -- [R-5 sheet]
  -- so does a page that `to_sheet` moves
  pub as-sheet-shows : as_sheet_check b chars ≡ unrefused → ShowsSame b chars (value_or b (as_sheet b chars)) chars
  unfolding as_sheet
  as-sheet-shows ok = rw ok (as-sheet-shown b chars (as-sheet-passed b chars ok) registers)

  registers-kept : as_sheet_check b chars ≡ unrefused → 2 < length (value_or b (as_sheet b chars)).page.irs
  unfolding as_sheet as_sheet_page
  registers-kept ok = rw (ok, length-set b.page.irs 2 (ir b.page 2 % 128)) registers

  -- and one that is moved back and there again
  pub sheet-then-table : as_sheet_check b chars ≡ unrefused → as_table_check (value_or b (as_sheet b chars)) chars ≡ unrefused
      → ShowsSame b chars (value_or (value_or b (as_sheet b chars)) (as_table (value_or b (as_sheet b chars)) chars)) (as_table_left (value_or b (as_sheet b chars)) chars)
  sheet-then-table ok again attrs = shows-on (as-sheet-shows ok attrs) (as-table-shows (value_or b (as_sheet b chars)) chars (registers-kept ok) again attrs)

  -- [R-5 both] a sheet moved there and back differs only in screen start 2 and the table's cells
  -- a sheet that is moved there and back has another screen start 2, and nothing else of its board has changed
  pub table-then-sheet : ir b.page 2 < 256 → as_table_check b chars ≡ unrefused
      → as_sheet (value_or b (as_table b chars)) (as_table_left b chars) ≡ Ok (with_page b (changed b.page b.page.irs b.page.starts.start1 (table_place b.page chars)))
  unfolding as_table as_table_left as_table_page
  table-then-sheet byte ok = rw ok (returned b chars (as-table-passed b chars ok) registers byte)

  -- [R-5 table]
  -- and of memory the table's cells
  pub memory-back : as_table_check b chars ≡ unrefused → (x : ℕ) → (table_place b.page chars ≤ x → x < table_place b.page chars + table_size b.page → ⊥) → get_or (as_table_left b chars) x 0 ≡ get_or chars x 0
  unfolding as_table_left
  memory-back ok x out = rw ok (kept-cells b chars (as-table-passed b chars ok) registers x out)
