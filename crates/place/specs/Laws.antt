-- The definitions as the code has them: one law for each way out of a function. And what callers use. Assumes nothing.
--     loaded-lt      what is fetched or held is an address
--     carried-all    what holds at every column of every row, and at clock 0, holds at every clock
use Rattle.std.specs.Prelude.{◌≡◌, ℕ, zero, suc, ◌+◌, ◌-◌, ◌/◌, ◌%◌, ◌<◌, ◌≤◌, Bool, true, false, ◌&&◌, ltb, List, length, ◌==◌, ◌≢◌, nat_lt}
use Rattle.std.proofs.Math.Path.{refl}
use Rattle.std.proofs.Common.{subst, ◌∙◌, true≢false, arith}
use Rattle.std.proofs.Math.Decide.{dec_lt}
use borrow.Author.Tests.{lt-ltb, le-ltb, ltb-true, eqb-true, eq-eqb, ne_eqb}
use Rattle.lists.specs.Choice.{pick, pick-lt, both}
use Rattle.units.specs.declared.Clocks.{Clocks}
use Rattle.units.specs.declared.Lines.{Lines}
use Rattle.units.specs.Units.{clocks, lines}
use Rattle.refusal.specs.Number.{unrefused, wrong_size}
use Rattle.refusal.specs.Laws.{size-right}
use Rattle.raster.specs.declared.Row.{Row}
use Rattle.raster.specs.declared.Cell.{Cell}
use Rattle.raster.specs.Moves.{cell}
use Rattle.raster.specs.Beams.{beam, row}
use Rattle.board.specs.declared.Page.{Page}
use Rattle.board.specs.declared.Place.{Place}
use Rattle.board.specs.declared.Board.{Board}
use Rattle.board.specs.Range.{memories_refused}
use Rattle.board.specs.Laws.{memories-all}
use Rattle.timing.specs.declared.Timing.{Timing}
use Rattle.timing.specs.Fields.{lines_of, ht_of, vt_of, table_of, visible_of, timing_of, counts_of}
use Rattle.timing.specs.Laws.{Accepted, row-shown, call-passed}
use Rattle.fetch.specs.Rows.{entry_of, code_at, row_start, cell_at}
use Rattle.fetch.specs.Laws.{entry_lt}
use Rattle.latch.specs.Held.{held_at}
use Rattle.place.specs.declared.Carried.{Carried}
use Rattle.place.specs.declared.Spot.{Spot}
use Rattle.place.specs.Place.{carried, settled, held_in, active_at, loads_at, begins_at, begun_in, loaded_in, past_cell, moved_in, turned_in, row_at, last_at, line_at, carried_before, place_at}
use Rattle.place.specs.Spot.{last_spot, spot_in, spot_before, origin_at}
use Rattle.place.specs.State.{state_check}

row_of : (p : Page) (line : ℕ) → line < (visible_of p).0 → line / lines_of p < 8192
row_of p line v = omega (arith, row-shown p line v)

pub spot-row : (p : Page) (c line : ℕ) → (spot_before p c line).row < 8192
unfolding spot_before spot_in
spot-row p c line = go (nat_lt 0 c) (nat_lt 0 line)
  where
    one : (k l : ℕ) → (spot_in p k l).row < 8192
    one k l = by (dec_lt l (visible_of p).0)
      where
        by : Dec (l < (visible_of p).0) → (spot_in p k l).row < 8192
        by (yes h) = rw (lt-ltb l (visible_of p).0 h) (row_of p l h)
        by (no f) = rw (le-ltb l (visible_of p).0 (omega arith)) (omega arith)

    go : (s t : Bool) → (pick s (spot_in p c line) (pick t (spot_in p (ht_of p) (line - 1)) (last_spot p))).row < 8192
    go true t = one c line
    go false true = one (ht_of p) (line - 1)
    go false false = omega arith

-- ---- what a clock works on

module _ (p : Page) (chars : List ℕ) (r a : ℕ) where
  pub begins-table : table_of p ≡ true → entry_of p chars r ≡ begins_at p chars r a
  begins-table e = rw e

  pub begins-first : table_of p ≡ false → r ≡ 0 → p.starts.start1 ≡ begins_at p chars r a
  begins-first e z = rw (e, eq-eqb r 0 z)

  pub begins-on : table_of p ≡ false → (r ≢ 0) → a ≡ begins_at p chars r a
  begins-on e z = rw (e, ne_eqb r 0 z)

module _ (p : Page) (chars : List ℕ) (q : Place) where
  pub loads-row : loads_at p q ≡ true → q.line.0 / lines_of p < 8192
  loads-row t = row_of p q.line.0 (ltb-true _ _ (both (nat_lt q.line.0 (visible_of p).0) (q.clock.0 == 0) t).0)

  pub loaded-first : loads_at p q ≡ true → (q.line.0 % lines_of p == 0) ≡ true
      → (x : Row) → x ≡ begun_in p chars (q.line.0 / lines_of p) (held_in p q) → carried x x ≡ loaded_in p chars q
  unfolding loaded_in
  loaded-first t z x e = rw (t, z, e)

  pub loaded-again : loads_at p q ≡ true → (q.line.0 % lines_of p == 0) ≡ false
      → (x : Row) → x ≡ settled p q.row → carried x x ≡ loaded_in p chars q
  unfolding loaded_in
  loaded-again t z x e = rw (t, z, e)

  pub loaded_on : loads_at p q ≡ false → (x y : Row) → x ≡ held_in p q → y ≡ settled p q.row → carried x y ≡ loaded_in p chars q
  unfolding loaded_in
  loaded_on t x y e d = rw (t, e, d)

-- ---- the place after a clock

module _ (p : Page) (attrs : List ℕ) (q : Place) (c : Carried) where
  pub moved-active : active_at p q ≡ true → (x : Row) → x ≡ past_cell p attrs q.clock.0 c.beam
      → carried x c.row ≡ moved_in p attrs q c
  unfolding moved_in
  moved-active t x e = rw (t, e)

  pub moved-held : active_at p q ≡ false → c ≡ moved_in p attrs q c
  unfolding moved_in
  moved-held t = rw t

-- k and l are one clock and one line on
module _ (p : Page) (q : Place) (c : Carried) (t : Timing) (et : t ≡ timing_of p)
    (k : Clocks) (ek : k ≡ clocks (q.clock.0 + 1)) (l : Lines) (el : l ≡ lines (q.line.0 + 1)) where
  clock-test : (b : Bool) → nat_lt k.0 t.counts.ht.0 ≡ b → nat_lt (q.clock.0 + 1) (ht_of p) ≡ b
  unfolding timing_of counts_of
  clock-test b e = rw (ek, et) at e

  line-test : (b : Bool) → nat_lt l.0 t.counts.vt.0 ≡ b → nat_lt (q.line.0 + 1) (vt_of p) ≡ b
  unfolding timing_of counts_of
  line-test b e = rw (el, et) at e

  pub turned-clock : ltb k.0 t.counts.ht.0 ≡ true
      → ◌≡◌ {A = Place} (record { field = q.field; line = q.line; clock = k; beam = beam c.beam.address c.beam.latch; row = c.row }) (turned_in p q c)
  unfolding turned_in
  turned-clock h = rw (clock-test true h, ek)

  pub turned-line : ltb k.0 t.counts.ht.0 ≡ false → nat_lt l.0 t.counts.vt.0 ≡ true
      → ◌≡◌ {A = Place} (record { field = q.field; line = l; clock = clocks 0; beam = beam c.beam.address c.beam.latch; row = c.row }) (turned_in p q c)
  unfolding turned_in
  turned-line h g = rw (clock-test false h, line-test true g, el)

  pub turned-frame : ltb k.0 t.counts.ht.0 ≡ false → nat_lt l.0 t.counts.vt.0 ≡ false → (f : ℕ) → f ≡ (q.field + 1) % 256
      → ◌≡◌ {A = Place} (record { field = f; line = lines 0; clock = clocks 0; beam = beam c.beam.address c.beam.latch; row = c.row }) (turned_in p q c)
  unfolding turned_in
  turned-frame h g f e = rw (clock-test false h, line-test false g, e)

-- what is fetched or held is an address
module _ (p : Page) (chars : List ℕ) (a : Accepted p) where
  begins-lt : (r x : ℕ) → x < 16384 → begins_at p chars r x < 16384
  begins-lt r x h =
      pick-lt 16384 (table_of p) (entry_of p chars r) _ (entry_lt p chars r)
      (pick-lt 16384 (r == 0) p.starts.start1 x (omega (arith, a.start1)) h)

  pub loaded-lt : (q : Place) → q.beam.address ≤ 16383 → q.row.address ≤ 16383 → (loaded_in p chars q).beam.address < 16384
  unfolding loaded_in
  loaded-lt q h k = go (loads_at p q) (q.line.0 % lines_of p == 0)
    where
      first : Row
      first = begun_in p chars (q.line.0 / lines_of p) (held_in p q)

      again : Row
      again = settled p q.row

      go : (u w : Bool) → (pick u (pick w (carried first first) (carried again again)) (carried (held_in p q) again)).beam.address < 16384
      go true true = begins-lt (q.line.0 / lines_of p) q.beam.address (omega arith)
      go true false = omega arith
      go false w = omega arith

-- ---- at once

module _ (p : Page) (chars attrs : List ℕ) where
  pub row-at : (r c : ℕ) (a s : Cell) (l k : ℕ) → a ≡ cell (cell_at p chars r c) → s ≡ cell (row_start p chars r)
      → l ≡ held_at p chars attrs r c → k ≡ held_at p chars attrs r 0
      → (j : ℕ) → j ≡ code_at p chars r → carried (row a.address l j) (row s.address k j) ≡ row_at p chars attrs r c
  unfolding row_at
  row-at r c a s l k e d m n j o = rw (e, d, m, n, o)

  pub line-shown : (c line : ℕ) → line < (visible_of p).0 → row_at p chars attrs (line / lines_of p) c ≡ line_at p chars attrs c line
  unfolding line_at
  line-shown c line h = rw (lt-ltb line (visible_of p).0 h)

  pub line-idle : (c line : ℕ) → (visible_of p).0 ≤ line → last_at p chars attrs ≡ line_at p chars attrs c line
  unfolding line_at
  line-idle c line h = rw (le-ltb line (visible_of p).0 h)

  pub carried_on : (c line frame : ℕ) → 0 < c → line_at p chars attrs c line ≡ carried_before p chars attrs c line frame
  unfolding carried_before
  carried_on c line frame h = rw (lt-ltb 0 c h)

  pub carried-line : (c line frame : ℕ) → c ≡ 0 → 0 < line → line_at p chars attrs (ht_of p) (line - 1) ≡ carried_before p chars attrs c line frame
  unfolding carried_before
  carried-line c line frame e h = rw (e, lt-ltb 0 line h)

  pub carried-frame : (c line frame : ℕ) → c ≡ 0 → line ≡ 0 → 0 < frame → last_at p chars attrs ≡ carried_before p chars attrs c line frame
  unfolding carried_before
  carried-frame c line frame e d h = rw (e, d, lt-ltb 0 frame h)

  pub carried-zero : (c line frame : ℕ) → c ≡ 0 → line ≡ 0 → frame ≡ 0 → carried (row 0 0 0) (row 0 0 0) ≡ carried_before p chars attrs c line frame
  unfolding carried_before
  carried-zero c line frame e d f = rw (e, d, f)

  -- where the beam last moved gives what is carried, but at clock 0
  spot-line : (c line : ℕ) → row_at p chars attrs (spot_in p c line).row (spot_in p c line).clocks.0 ≡ line_at p chars attrs c line
  unfolding spot_in
  spot-line c line = go (dec_lt line (visible_of p).0)
    where
      go : Dec (line < (visible_of p).0) → row_at p chars attrs (spot_in p c line).row (spot_in p c line).clocks.0 ≡ line_at p chars attrs c line
      go (yes h) = rw (lt-ltb line (visible_of p).0 h) (line-shown c line h)
      go (no f) = rw (le-ltb line (visible_of p).0 (omega arith)) (line-idle c line (omega arith))

  pub spot-carried : (c line frame : ℕ) → 0 < c + line + frame → row_at p chars attrs (spot_before p c line).row (spot_before p c line).clocks.0 ≡ carried_before p chars attrs c line frame
  unfolding spot_before
  spot-carried (suc c) line frame h = rw (lt-ltb 0 (suc c) (omega arith)) (spot-line (suc c) line ∙ carried_on (suc c) line frame (omega arith))
  spot-carried zero (suc line) frame h = rw (lt-ltb 0 (suc line) (omega arith)) (spot-line (ht_of p) (suc line - 1) ∙ carried-line 0 (suc line) frame refl (omega arith))
  spot-carried zero zero frame h = carried-frame 0 0 frame refl refl (omega arith)

  pub at_zero : (c line frame : ℕ) → origin_at c line frame ≡ true → carried (row 0 0 0) (row 0 0 0) ≡ carried_before p chars attrs c line frame
  at_zero c line frame t =
      let a = both (c == 0 && line == 0) (frame == 0) t in
      let b = both (c == 0) (line == 0) a.0 in
      carried-zero c line frame (eqb-true _ _ b.0) (eqb-true _ _ b.1) (eqb-true _ _ a.1)

  pub past-zero : (c line frame : ℕ) → origin_at c line frame ≡ false → (s : Spot) → s ≡ spot_before p c line
      → (x : Carried) → x ≡ row_at p chars attrs s.row s.clocks.0 → x ≡ carried_before p chars attrs c line frame
  past-zero c line frame t s e x q = q ∙ rw e (spot-carried c line frame (some c line frame t))
    where
      some : (c line frame : ℕ) → origin_at c line frame ≡ false → 0 < c + line + frame
      some (suc c) line frame u = omega arith
      some zero (suc line) frame u = omega arith
      some zero zero (suc frame) u = omega arith
      some zero zero zero u = absurd (true≢false u)

  pub carried-all : (P : Carried → Type 0) → ((r c : ℕ) → P (row_at p chars attrs r c)) → P (carried (row 0 0 0) (row 0 0 0))
      → (c line frame : ℕ) → P (carried_before p chars attrs c line frame)
  carried-all P rows first c line frame = go (origin_at c line frame) refl
    where
      go : (t : Bool) → origin_at c line frame ≡ t → P (carried_before p chars attrs c line frame)
      go true e = subst P (at_zero c line frame e) first
      go false e = subst P (past-zero c line frame e _ refl _ refl) (rows _ _)

  -- the parts of clock n
  module _ (n : ℕ) (t : Timing) (et : t ≡ timing_of p) (whole : Lines) (ew : whole ≡ lines (n / t.counts.ht.0))
      (clock : Clocks) (ec : clock ≡ clocks (n % t.counts.ht.0)) (line : Lines) (el : line ≡ lines (whole.0 % t.counts.vt.0))
      (frame : ℕ) (ef : frame ≡ whole.0 / t.counts.vt.0) where
    pub place_at_lem : (x : Carried) → x ≡ carried_before p chars attrs clock.0 line.0 frame
        → ◌≡◌ {A = Place} (record { field = frame % 256; line = line; clock = clock; beam = beam x.beam.address x.beam.latch; row = x.row }) (place_at p chars attrs n)
    unfolding place_at timing_of counts_of
    place_at_lem x e = rw (e, ec, el, ef, ew, et)

pub state-whole : (b : Board) (chars attrs : List ℕ) → state_check b chars attrs ≡ unrefused → (length chars ≡ 16384) × (length attrs ≡ 16384)
state-whole b chars attrs e =
    let k = call-passed b (wrong_size (memories_refused (length chars) (length attrs))) false false e in
    memories-all (length chars) (length attrs) (size-right _ k.lent-fine)
