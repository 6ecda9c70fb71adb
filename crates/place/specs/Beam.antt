-- The place's definitions are the raster's, with what the beam carries: so the two agree for every clock (`raster` Agree). Assumes nothing.
--     next-beam     one clock
--     loaded-beam   what it works on
--     at-beam       the place for clock n
use Rattle.std.specs.Prelude.{◌≡◌, ℕ, zero, suc, ◌+◌, ◌-◌, ◌/◌, ◌%◌, Bool, true, false, not, ◌&&◌, List, ◌==◌, nat_lt}
use Rattle.std.proofs.Math.Path.{refl, ap}
use Rattle.std.proofs.Common.{◌∙◌, arith, lt-ltb}
use Rattle.std.proofs.Math.Numerals.{sub-one}
use Rattle.lists.specs.Choice.{pick}
use Rattle.raster.specs.declared.Row.{Row}
use Rattle.raster.specs.Moves.{advance}
use Rattle.raster.specs.Raster.{Carrier, Rows, Pair, pair, Scan, scan, loaded, onward, turn, step, tail, in_line, carried_at, at_once}
use Rattle.raster.specs.Cells.{begins}
use Rattle.raster.specs.Latch.{latched, sets_of}
use Rattle.raster.specs.Wide.{code_of, again_at, ends_at}
use Rattle.raster.specs.Beams.{row, beam_carrier, beam_rows}
use Rattle.board.specs.declared.Page.{Page}
use Rattle.board.specs.declared.Place.{Place}
use Rattle.board.specs.Modes.{field_mode}
use Rattle.timing.specs.Fields.{lines_of, rows_of, hact_of, ht_of, vt_of, visible_of, buffer_of, counts_of}
use Rattle.fetch.specs.Rows.{code_at, cell_at}
use Rattle.fetch.specs.Feed.{feed_in, tally_in, start-fed, cell-fed}
use Rattle.latch.specs.Held.{held_at}
use Rattle.latch.specs.Laws.{held-beam}
use Rattle.place.specs.declared.Carried.{Carried}
use Rattle.place.specs.Place.{carried, placed, settled, held_in, begun_in, loaded_in, past_cell, moved_in, turned_in, next_place, row_at, line_at, carried_before, place_at, line_in, clock_in, frame_in}

-- a place as the raster has it, where the beam goes by its row's code, and back
abbrev pub raster_of : Place → Scan Row
raster_of q = scan q.field q.line.0 q.clock.0 (pair (row q.beam.address q.beam.latch q.row.code) q.row)

abbrev pub carried_of : Pair Row → Carried
carried_of x = carried x.beam x.row

abbrev pub place_of : Scan Row → Place
place_of s = placed s.field s.line s.clock (carried_of s.carried)

-- sets: the attribute byte that the cell at an address sets
abbrev pub carrier_in : Page → (chars : List ℕ) → (sets : ℕ → ℕ) → Carrier Row
carrier_in p chars sets = beam_carrier (counts_of p) (feed_in p chars) (code_at p chars) sets

abbrev pub carrier_of : Page → (chars attrs : List ℕ) → Carrier Row
carrier_of p chars attrs = carrier_in p chars (sets_of (field_mode p) attrs)

abbrev pub rows_in : Page → (chars attrs : List ℕ) → Rows Row
rows_in p chars attrs = beam_rows (counts_of p) (feed_in p chars) (code_at p chars) (sets_of (field_mode p) attrs) (tally_in p chars)

-- ---- one clock

module _ (p : Page) (chars attrs : List ℕ) (q : Place) where
  abbrev held : Pair Row
  held = pair (held_in p q) (settled p q.row)

  -- what the raster's clock works on: no attribute plays a part in it
  abbrev pub works_on : Pair Row
  works_on = pick (nat_lt q.line.0 (visible_of p).0) (loaded (counts_of p) (carrier_of p chars attrs) q.line.0 q.clock.0 held) held

  pub loaded-beam : loaded_in p chars q ≡ carried_of works_on
  unfolding loaded_in loaded begins counts_of
  loaded-beam = go (nat_lt q.line.0 (visible_of p).0) (q.clock.0 == 0) (q.line.0 % lines_of p == 0)
    where
      first : Row
      first = begun_in p chars (q.line.0 / lines_of p) (held_in p q)

      again : Row
      again = settled p q.row

      go : (u v w : Bool) → pick (u && v) (pick w (carried first first) (carried again again)) (carried (held_in p q) again)
          ≡ carried_of (pick u (pick v (pick w (pair first first) (pair again again)) held) held)
      go true true true = refl
      go true true false = refl
      go true false w = refl
      go false v w = refl

  turned-beam : (c : Pair Row) → turned_in p q (carried_of c) ≡ place_of (turn (counts_of p) q.field q.line.0 q.clock.0 c)
  unfolding turned_in turn counts_of
  turned-beam c = go (nat_lt (q.clock.0 + 1) (ht_of p)) (nat_lt (q.line.0 + 1) (vt_of p))
    where
      to : (field line clock : ℕ) → Place
      to field line clock = placed field line clock (carried_of c)

      on : (field line clock : ℕ) → Scan Row
      on field line clock = scan field line clock c

      go : (u v : Bool)
          → pick u (to q.field q.line.0 (q.clock.0 + 1)) (pick v (to q.field (q.line.0 + 1) 0) (to ((q.field + 1) % 256) 0 0))
          ≡ place_of (pick u (on q.field q.line.0 (q.clock.0 + 1)) (pick v (on q.field (q.line.0 + 1) 0) (on ((q.field + 1) % 256) 0 0)))
      go true v = refl
      go false true = refl
      go false false = refl

  -- what is carried on
  moved-beam : moved_in p attrs q (carried_of works_on) ≡ carried_of (onward (counts_of p) (carrier_of p chars attrs) q.line.0 q.clock.0 held)
  unfolding moved_in onward counts_of
  moved-beam = go (nat_lt q.line.0 (visible_of p).0) (nat_lt q.clock.0 (hact_of p))
    where
      a : Pair Row
      a = loaded (counts_of p) (carrier_of p chars attrs) q.line.0 q.clock.0 held

      ends : Bool
      ends = ends_at (counts_of p) (code_of a.beam.code) q.clock.0

      again : Bool
      again = again_at (code_of a.beam.code) q.clock.0

      at : ℕ
      at = advance (buffer_of p) a.beam.address

      set : ℕ
      set = latched (sets_of (field_mode p) attrs a.beam.address) a.beam.latch

      past : (latch : ℕ) → Carried
      past latch = carried (row (pick ends at a.beam.address) latch a.beam.code) a.row

      turned : (t : Bool) (x y : ℕ) → pick t x y ≡ pick (not t) y x
      turned true x y = refl
      turned false x y = refl

      go : (u v : Bool)
          → pick (u && v) (carried (past_cell p attrs q.clock.0 (carried_of (pick u a held)).beam) (carried_of (pick u a held)).row) (carried_of (pick u a held))
          ≡ carried_of (pick u (pair (row (pick (v && ends) at a.beam.address) (pick (v && not again) set a.beam.latch) a.beam.code) a.row) held)
      go true true = ap past (turned again a.beam.latch set)
      go true false = refl
      go false v = refl

  -- one clock is one step of the raster, from what counts
  pub next-beam : next_place p chars attrs q
      ≡ place_of (step (counts_of p) (carrier_of p chars attrs) (scan q.field q.line.0 q.clock.0 held))
  unfolding step
  next-beam =
      ap (λ (c : Carried). turned_in p q (moved_in p attrs q c)) loaded-beam
      ∙ ap (turned_in p q) moved-beam
      ∙ turned-beam (onward (counts_of p) (carrier_of p chars attrs) q.line.0 q.clock.0 held)

-- ---- at once

module _ (p : Page) (chars attrs : List ℕ) where
  pub walk_is : (r c : ℕ) → (rows_in p chars attrs).walk r c ≡ row (cell_at p chars r c) (held_at p chars attrs r c) (code_at p chars r)
  walk_is r c = rw (cell-fed p chars r c, held-beam p chars attrs r c)

  row-beam : (r c : ℕ) → row_at p chars attrs r c ≡ carried_of (pair ((rows_in p chars attrs).walk r c) ((rows_in p chars attrs).start r))
  unfolding row_at
  row-beam r c = rw (cell-fed p chars r c, start-fed p chars r, held-beam p chars attrs r c, held-beam p chars attrs r 0)

  last-beam : row_at p chars attrs (rows_of p - 1) (ht_of p) ≡ carried_of (tail (counts_of p) (rows_in p chars attrs))
  unfolding tail counts_of
  last-beam = row-beam (rows_of p - 1) (ht_of p) ∙ rw (sub-one (rows_of p))

  line-beam : (c line : ℕ) → line_at p chars attrs c line ≡ carried_of (in_line (counts_of p) (rows_in p chars attrs) c line)
  unfolding line_at in_line counts_of
  line-beam c line = go (nat_lt line (visible_of p).0)
    where
      shown : Pair Row
      shown = pair ((rows_in p chars attrs).walk (line / lines_of p) c) ((rows_in p chars attrs).start (line / lines_of p))

      go : (t : Bool) → pick t (row_at p chars attrs (line / lines_of p) c) (row_at p chars attrs (rows_of p - 1) (ht_of p))
          ≡ carried_of (pick t shown (tail (counts_of p) (rows_in p chars attrs)))
      go true = row-beam (line / lines_of p) c
      go false = last-beam

  pub carried-beam : (c line frame : ℕ) → carried_before p chars attrs c line frame ≡ carried_of (carried_at (counts_of p) (rows_in p chars attrs) (row 0 0 0) c line frame)
  unfolding carried_before carried_at counts_of
  carried-beam (suc c) line frame = rw (lt-ltb 0 (suc c) (omega arith)) (line-beam (suc c) line)
  carried-beam zero (suc line) frame = rw (lt-ltb 0 (suc line) (omega arith), sub-one (suc line)) (line-beam (ht_of p) line)
  carried-beam zero zero (suc frame) = rw (lt-ltb 0 (suc frame) (omega arith)) last-beam
  carried-beam zero zero zero = refl

  pub at-beam : (n : ℕ) → place_at p chars attrs n ≡ place_of (at_once (counts_of p) (rows_in p chars attrs) (row 0 0 0) n)
  unfolding place_at at_once counts_of
  at-beam n = ap (placed (frame_in p n % 256) (line_in p n) (clock_in p n)) (carried-beam (clock_in p n) (line_in p n) (frame_in p n))
