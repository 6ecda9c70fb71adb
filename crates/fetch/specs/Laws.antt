-- What callers use of the fetch: an accepted page's cells are the beam's, and a run is empty on a refusal and only there. Assumes nothing.
use Prim.Native.Nat.{ℕ, min, ◌+◌, ◌-◌, ◌*◌, ◌/◌, ◌^◌, ◌≤◌, ◌<◌}
use Rattle.std.specs.Prelude.{◌≡◌, Bool, List, ltb, leb, take, drop, is_ok, Ok, Err}
use Rattle.std.proofs.Math.Path.{refl}
use Rattle.std.proofs.Common.{sym, ap, ◌∙◌, true≢false, mul-le-mul, lt-ltb, leb-false, length-take-le}
use Rattle.std.proofs.Math.Bool.{true, false}
use native.Mathlib.Omega.{arith}
use Rattle.std.proofs.Math.ListN.{length, length-drop}
use Rattle.lists.specs.Choice.{pick}
use Rattle.refusal.specs.Number.{Checked, unrefused, check_of, wrong_size}
use Rattle.refusal.specs.Laws.{done-is, check-given, size-right}
use Rattle.raster.specs.Moves.{advance_by, advance_by-lt}
use Rattle.raster.specs.declared.Code.{Code}
use Rattle.raster.specs.Wide.{code_of, is_wide}
use Rattle.raster.specs.Cells.{Fed, Tallied, start-lt}
use Rattle.board.specs.declared.Page.{Page}
use Rattle.board.specs.declared.Board.{Board}
use Rattle.board.specs.Range.{memory_refused}
use Rattle.board.specs.Laws.{memory-all}
use Rattle.timing.specs.Fields.{coded_of, rows_of, hact_of, table_of, buffer_of, counts_of}
use Rattle.timing.specs.Laws.{Accepted, call-passed}
use Rattle.fetch.specs.Feed.{feed_in, tally_in, start-fed, accepted-fed, accepted-tallied}
use Rattle.fetch.specs.declared.Span.{Span}
use Rattle.fetch.specs.Rows.{entry_of, code_at, wide_at, row_start, fetch_at, fetched_of, fetched_before, moved_of, cell_at}
use Rattle.fetch.specs.Run.{run_check, run_count, span_of, span_in, run_of}

pub entry_lt : (p : Page) (chars : List ℕ) (r : ℕ) → entry_of p chars r < 16384
unfolding entry_of
entry_lt p chars r = omega arith

-- without IR0[7] every row is plain
pub no-codes : (p : Page) (chars : List ℕ) → coded_of p ≡ false → (r : ℕ) → code_at p chars r ≡ 0
unfolding code_at
no-codes p chars e r = rw e

module _ (p : Page) (chars : List ℕ) (a : Accepted p) where
  pub fed : Fed (feed_in p chars)
  fed = accepted-fed p (entry_of p chars) (code_at p chars) a (entry_lt p chars)

  pub tallied : Tallied (counts_of p) (feed_in p chars) (tally_in p chars)
  tallied = accepted-tallied p (entry_of p chars) (code_at p chars) a (no-codes p chars)

  pub row-start-lt : (r : ℕ) → row_start p chars r < 16384
  row-start-lt r = rw (start-fed p chars r) (start-lt (counts_of p) (feed_in p chars) (tally_in p chars) fed tallied r)

pub cell-at-lt : (p : Page) (chars : List ℕ) (r c : ℕ) → cell_at p chars r c < 16384
unfolding cell_at fetch_at
cell-at-lt p chars r c = advance_by-lt (buffer_of p) (moved_of p chars r c) (row_start p chars r)

-- ---- the definitions as the code has them

pub moves-fit : (p : Page) (r : ℕ) → r < 8192 → r * hact_of p < 2 ^ 32
moves-fit p r h =
    let a : r ≤ 8192 = omega arith in
    let b : hact_of p ≤ 256 = omega arith in
    omega (arith, mul-le-mul a b)

module _ (p : Page) (chars : List ℕ) (r : ℕ) where
  pub start-table : table_of p ≡ true → entry_of p chars r ≡ row_start p chars r
  unfolding row_start
  start-table e = rw e

  pub start-sheet : table_of p ≡ false → advance_by (buffer_of p) (r * hact_of p) p.starts.start1 ≡ row_start p chars r
  unfolding row_start
  start-sheet e = rw e

  pub cell-moved : (c : ℕ) → fetch_at p chars r (moved_of p chars r c) ≡ cell_at p chars r c
  unfolding cell_at
  cell-moved c = refl

  moved_in_lem : (c : ℕ) → c < hact_of p → moved_of p chars r c ≡ pick (wide_at p chars r) (c / 2) c
  unfolding moved_of
  moved_in_lem c h = rw (lt-ltb c (hact_of p) h)

  -- within the row a column shows the cell of its own place, or of half of it where the row is of double width
  pub cell-shown : (c : ℕ) → c < hact_of p → fetch_at p chars r (pick (wide_at p chars r) (c / 2) c) ≡ cell_at p chars r c
  cell-shown c h = ap (fetch_at p chars r) (sym (moved_in_lem c h)) ∙ cell-moved c

-- ---- a row's code, as the code has it

module _ (p : Page) (chars : List ℕ) (r : ℕ) where
  -- whether the row is of double width
  pub wide_is : {t : Bool} {k : Code} {byte : ℕ} → t ≡ is_wide k → k ≡ code_of byte → byte ≡ code_at p chars r → t ≡ wide_at p chars r
  wide_is e f g = rw (e, f, g)

  pub fetched-by : {t : Bool} → t ≡ wide_at p chars r → pick t ((hact_of p + 1) / 2) (hact_of p) ≡ fetched_of p chars r
  unfolding fetched_of
  fetched-by e = rw e

  pub moved_by : {t : Bool} (c : ℕ) → t ≡ wide_at p chars r → ltb c (hact_of p) ≡ true → pick t (c / 2) c ≡ moved_of p chars r c
  unfolding moved_of
  moved_by c e h = rw (h, e)

  pub moved-past : (c : ℕ) → ltb c (hact_of p) ≡ false → fetched_of p chars r ≡ moved_of p chars r c
  unfolding moved_of
  moved-past c h = rw h

  pub begun-by : {t : Bool} (c : ℕ) → t ≡ wide_at p chars r → pick t ((min c (hact_of p) + 1) / 2) (min c (hact_of p)) ≡ fetched_before p chars r c
  unfolding fetched_before
  begun-by c e = rw e

  pub begun-least : (c : ℕ) → fetched_before p chars r (min c (hact_of p)) ≡ fetched_before p chars r c
  unfolding fetched_before
  begun-least c =
      let m : min (min c (hact_of p)) (hact_of p) ≡ min c (hact_of p) = omega arith in
      rw m

  -- at the row's end all of them
  pub begun_all : fetched_before p chars r (hact_of p) ≡ fetched_of p chars r
  unfolding fetched_before fetched_of
  begun_all =
      let m : min (hact_of p) (hact_of p) ≡ hact_of p = omega arith in
      rw m

pub fetched-small : (p : Page) (chars : List ℕ) (r : ℕ) → (0 < fetched_of p chars r) × (fetched_of p chars r ≤ 256)
unfolding fetched_of
fetched-small p chars r = go (wide_at p chars r)
  where
    go : (t : Bool) → (0 < pick t ((hact_of p + 1) / 2) (hact_of p)) × (pick t ((hact_of p + 1) / 2) (hact_of p) ≤ 256)
    go true = (omega arith, omega arith)
    go false = (omega arith, omega arith)

-- ---- runs

pub record Run (b : Board) (n row : ℕ) : Type 0 where
  pub page : Accepted b.page
  pub whole : n ≡ 16384
  pub row_lt : row < rows_of b.page

pub run-passed : (b : Board) (n row : ℕ) → run_check b n row ≡ unrefused → Run b n row
unfolding run_check
run-passed b n row e =
    let k = call-passed b (wrong_size (memory_refused n)) (leb (rows_of b.page) row) false e in
    record { page = k.page; whole = memory-all n (size-right _ k.lent-fine); row_lt = leb-false _ _ k.in_reach }

count-some : (p : Page) (n s : ℕ) → 0 < n → s < 16384 → 0 < run_count p n s
unfolding run_count
count-some p n s k h = omega arith

count_fits : (p : Page) (n s : ℕ) → s < 16384 → s + run_count p n s ≤ 16384
unfolding run_count
count_fits p n s h = omega arith

module _ (b : Board) (chars : List ℕ) (row : ℕ) where
  -- the run lies in 16,384 cells, and in character memory whatever its size
  pub span_small : ((span_in b chars row).start + (span_in b chars row).count ≤ 16384) × ((span_in b chars row).start + (span_in b chars row).count ≤ length chars)
  unfolding span_of
  span_small = go (run_check b (length chars) row) refl
    where
      go : (t : Checked) → run_check b (length chars) row ≡ t
          → ((span_in b chars row).start + (span_in b chars row).count ≤ 16384) × ((span_in b chars row).start + (span_in b chars row).count ≤ length chars)
      go (Ok tt) q =
          let k : Run b (length chars) row = run-passed b (length chars) row q in
          let l : row_start b.page chars row < 16384 = row-start-lt b.page chars k.page row in
          let f = count_fits b.page (fetched_of b.page chars row) (row_start b.page chars row) l in
          rw q (f, omega (arith, f, k.whole))
      go (Err why) q = rw q (omega arith, omega arith)

  pub span_fits : (span_in b chars row).start + (span_in b chars row).count ≤ length chars
  span_fits = span_small.1

  -- the same, as the code has it
  pub run-part : (s : Span) → s ≡ span_in b chars row → take (s.start + s.count - s.start) (drop s.start chars) ≡ run_of b chars row
  unfolding run_of
  run-part s e =
      let n : s.start + s.count - s.start ≡ s.count = omega arith in
      rw (n, e)

  pub span-number : check_of (span_of b chars row) ≡ run_check b (length chars) row
  unfolding span_of
  span-number = check-given (run_check b (length chars) row) _

  -- [fetch run]
  -- a refusal shows an empty part, and nothing else does
  pub run-refused : is_ok (run_check b (length chars) row) ≡ false → length (run_of b chars row) ≡ 0
  unfolding run_of span_of
  run-refused q = go (run_check b (length chars) row) refl q
    where
      go : (t : Checked) → run_check b (length chars) row ≡ t → is_ok t ≡ false → length (run_of b chars row) ≡ 0
      go (Ok tt) e f = absurd (true≢false f)
      go (Err why) e f = rw e

  -- [fetch run]
  -- a run that is not refused has a cell
  pub run-some : is_ok (run_check b (length chars) row) ≡ true → 0 < length (run_of b chars row)
  unfolding run_of span_of
  run-some q =
      let ok : run_check b (length chars) row ≡ unrefused = done-is _ q in
      let k : Run b (length chars) row = run-passed b (length chars) row ok in
      let l : row_start b.page chars row < 16384 = row-start-lt b.page chars k.page row in
      let n : (span_in b chars row).count ≡ run_count b.page (fetched_of b.page chars row) (row_start b.page chars row) = rw ok in
      let some = count-some b.page (fetched_of b.page chars row) (row_start b.page chars row) (fetched-small b.page chars row).0 l in
      let room : (span_in b chars row).count ≤ length (drop (span_in b chars row).start chars) = rw length-drop (omega (arith, span_fits)) in
      rw (length-take-le (span_in b chars row).count (drop (span_in b chars row).start chars) room, n) some
