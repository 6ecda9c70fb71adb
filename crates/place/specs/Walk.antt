-- The place for clock n and what its clock works on, for an accepted page, by the raster's walk (`raster` Agree). Assumes nothing.
--     carried-small   its addresses are in range
--     next_place_lem      one clock on is the place for clock n + 1
--     beam-at         in a visible line a clock works on the cell of its column
--     beam-past       past the visible lines on what is held
use Rattle.std.specs.Prelude.{◌≡◌, ℕ, suc, ◌/◌, ◌%◌, ◌<◌, ◌≤◌, List}
use Rattle.std.proofs.Math.Path.{refl, ap}
use Rattle.std.proofs.Common.{sym, ◌∙◌, arith, lt-ltb, le-ltb}
use Rattle.raster.specs.declared.Row.{Row}
use Rattle.raster.specs.Raster.{Pair, Scan, pair, scan, step, loaded, at_once}
use Rattle.raster.specs.Agree.{Laws, step-meets, loaded-meets}
use Rattle.raster.specs.Latch.{sets_of}
use Rattle.raster.specs.Beams.{row, beams-lawful}
use Rattle.board.specs.declared.Page.{Page}
use Rattle.board.specs.declared.Place.{Place}
use Rattle.board.specs.Modes.{field_mode}
use Rattle.timing.specs.Fields.{lines_of, visible_of, counts_of}
use Rattle.timing.specs.Laws.{Accepted, accepted-good}
use Rattle.fetch.specs.Rows.{code_at, cell_at}
use Rattle.fetch.specs.Feed.{feed_in, tally_in}
use Rattle.fetch.specs.Laws.{fed, tallied, cell-at-lt, row-start-lt}
use Rattle.latch.specs.Held.{held_at}
use Rattle.place.specs.declared.Carried.{Carried}
use Rattle.place.specs.Place.{loaded_in, next_place, clock_in, line_in, frame_in, row_at, carried_before, place_at}
use Rattle.place.specs.Laws.{carried-all}
use Rattle.place.specs.Settled.{settled_in, at-settled}
use Rattle.place.specs.Beam.{raster_of, carried_of, place_of, carrier_of, rows_in, loaded-beam, next-beam, walk_is, carried-beam, at-beam}

-- ---- its addresses are in range

pub record Small (c : Carried) : Type 0 where
  pub beam-lt : c.beam.address < 16384
  pub row-address-lt : c.row.address < 16384

module _ (p : Page) (chars attrs : List ℕ) (a : Accepted p) where
  row_small : (r c : ℕ) → Small (row_at p chars attrs r c)
  unfolding row_at
  row_small r c = record { beam-lt = cell-at-lt p chars r c; row-address-lt = row-start-lt p chars a r }

  pub carried-small : (c line frame : ℕ) → Small (carried_before p chars attrs c line frame)
  carried-small = carried-all p chars attrs Small row_small (record { beam-lt = omega arith; row-address-lt = omega arith })

  -- ---- one clock on

  -- the laws by which the beam's rows, at once, fit its steps
  lawful : Laws (counts_of p) (carrier_of p chars attrs) (rows_in p chars attrs)
  lawful = beams-lawful (counts_of p) (feed_in p chars) (code_at p chars) (sets_of (field_mode p) attrs) (tally_in p chars) refl (fed p chars a) (tallied p chars a) (accepted-good p a)

  -- at every clock the beam goes by its row's code
  one_code : (c line frame : ℕ) → (carried_before p chars attrs c line frame).beam.code ≡ (carried_before p chars attrs c line frame).row.code
  unfolding row_at
  one_code = carried-all p chars attrs (λ (x : Carried). x.beam.code ≡ x.row.code) (λ r c. refl) refl

  -- so that nothing of the raster is lost in a place
  raster-at : (n : ℕ) → raster_of (place_at p chars attrs n) ≡ at_once (counts_of p) (rows_in p chars attrs) (row 0 0 0) n
  unfolding place_at at_once counts_of
  raster-at n =
      let x = carried_before p chars attrs (clock_in p n) (line_in p n) (frame_in p n) in
      let to : Pair Row → Scan Row = λ y. scan (frame_in p n % 256) (line_in p n) (clock_in p n) y in
      ap (λ (k : ℕ). to (pair (row x.beam.address x.beam.latch k) x.row)) (sym (one_code (clock_in p n) (line_in p n) (frame_in p n)))
      ∙ ap (λ (y : Carried). to (pair y.beam y.row)) (carried-beam p chars attrs (clock_in p n) (line_in p n) (frame_in p n))

  pub next_place_lem : (n : ℕ) → next_place p chars attrs (place_at p chars attrs n) ≡ place_at p chars attrs (suc n)
  next_place_lem n =
      next-beam p chars attrs (place_at p chars attrs n)
      ∙ ap (λ (q : Place). place_of (step (counts_of p) (carrier_of p chars attrs) (raster_of q))) (at-settled p chars attrs n)
      ∙ ap (λ (s : Scan Row). place_of (step (counts_of p) (carrier_of p chars attrs) s)) (raster-at n)
      ∙ ap place_of (step-meets (counts_of p) (carrier_of p chars attrs) (rows_in p chars attrs) (accepted-good p a) lawful (row 0 0 0) n)
      ∙ sym (at-beam p chars attrs (suc n))

  -- ---- what its clock works on

  loaded-visible : (q : Place) → settled_in p q ≡ q → q.line.0 < (visible_of p).0
      → loaded_in p chars q ≡ carried_of (loaded (counts_of p) (carrier_of p chars attrs) q.line.0 q.clock.0 (raster_of q).carried)
  loaded-visible q s h =
      loaded-beam p chars attrs q
      ∙ rw (lt-ltb q.line.0 (visible_of p).0 h)
      (ap (λ (x : Place). carried_of (loaded (counts_of p) (carrier_of p chars attrs) q.line.0 q.clock.0 (raster_of x).carried)) s)

  pub beam-at : (n : ℕ) → line_in p n < (visible_of p).0
      → (loaded_in p chars (place_at p chars attrs n)).beam
      ≡ row (cell_at p chars (line_in p n / lines_of p) (clock_in p n)) (held_at p chars attrs (line_in p n / lines_of p) (clock_in p n)) (code_at p chars (line_in p n / lines_of p))
  unfolding place_at at_once counts_of
  beam-at n h =
      ap (λ (x : Carried). x.beam) (loaded-visible (place_at p chars attrs n) (at-settled p chars attrs n) h)
      ∙ ap (λ (s : Scan Row). (loaded (counts_of p) (carrier_of p chars attrs) (line_in p n) (clock_in p n) s.carried).beam) (raster-at n)
      ∙ ap (λ (x : Pair Row). x.beam)
      (loaded-meets (counts_of p) (carrier_of p chars attrs) (rows_in p chars attrs) (accepted-good p a) lawful (row 0 0 0) (clock_in p n) (line_in p n) (frame_in p n) h)
      ∙ walk_is p chars attrs (line_in p n / lines_of p) (clock_in p n)

pub beam-past : (p : Page) (chars attrs : List ℕ) (n : ℕ) → (visible_of p).0 ≤ line_in p n
    → (loaded_in p chars (place_at p chars attrs n)).beam ≡ (raster_of (place_at p chars attrs n)).carried.beam
unfolding loaded_in place_at
beam-past p chars attrs n h = rw (le-ltb (line_in p n) (visible_of p).0 h) (ap (λ (x : Place). (raster_of x).carried.beam) (at-settled p chars attrs n))
