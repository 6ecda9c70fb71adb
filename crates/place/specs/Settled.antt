-- Latch bytes and row codes as they count (02, R-1 and R-4): a latch byte without AFLG is none, and in character mode every one; of a code two bits, and none while IR0[7] is 0. Assumes nothing.
--     next-settled   every step leaves them so
--     at-settled     and so are those of the place for clock n
use Rattle.std.specs.Prelude.{◌≡◌, ℕ, ◌+◌, ◌*◌, ◌/◌, ◌%◌, Bool, true, false, List, ◌==◌, nat_lt}
use Rattle.std.proofs.Math.Path.{refl, sym}
use native.Mathlib.Omega.{arith}
use Rattle.lists.specs.Choice.{pick}
use Rattle.raster.specs.declared.Row.{Row}
use Rattle.raster.specs.Latch.{latched, kept-twice, latched-kept}
use Rattle.raster.specs.Wide.{code_of, again_at}
use Rattle.raster.specs.Beams.{beam, row}
use Rattle.board.specs.declared.Page.{Page}
use Rattle.board.specs.declared.Place.{Place}
use Rattle.board.specs.Modes.{field_mode}
use Rattle.timing.specs.Fields.{coded_of, lines_of, ht_of, vt_of}
use Rattle.fetch.specs.Rows.{byte_at, code_at}
use Rattle.latch.specs.Held.{held_at}
use Rattle.latch.specs.Laws.{held_plain, held_kept}
use Rattle.place.specs.declared.Carried.{Carried}
use Rattle.place.specs.Place.{carried, placed, set_by, counted_latch, counted_code, settled, held_in, active_at, loads_at, begun_in, loaded_in, past_cell, moved_in, turned_in, next_place, clock_in, line_in, frame_in, row_at, place_at}
use Rattle.place.specs.Laws.{carried-all}

-- a place with its two latch bytes and its row's code as they count
abbrev pub settled_in : Page → Place → Place
settled_in p q = record {
  field = q.field;
  line = q.line;
  clock = q.clock;
  beam = beam q.beam.address (counted_latch p q.beam.latch);
  row = settled p q.row;
}

module _ (p : Page) where
  -- ---- one byte

  counted_none : counted_latch p 0 ≡ 0
  unfolding counted_latch
  counted_none = go (field_mode p)
    where
      go : (t : Bool) → latched (pick t 0 0) 0 ≡ 0
      go true = refl
      go false = refl

  counted-twice : (l : ℕ) → counted_latch p (counted_latch p l) ≡ counted_latch p l
  unfolding counted_latch
  counted-twice l = go (field_mode p)
    where
      go : (t : Bool) → latched (pick t (latched (pick t l 0) 0) 0) 0 ≡ latched (pick t l 0) 0
      go true = kept-twice l
      go false = refl

  counted-set : (byte l : ℕ) → counted_latch p l ≡ l → counted_latch p (latched (set_by p byte) l) ≡ latched (set_by p byte) l
  unfolding counted_latch
  counted-set byte l = go (field_mode p)
    where
      go : (t : Bool) → latched (pick t l 0) 0 ≡ l → latched (pick t (latched (pick t byte 0) l) 0) 0 ≡ latched (pick t byte 0) l
      go true h = latched-kept byte l h
      go false h = h

  counted-held : (chars attrs : List ℕ) (r c : ℕ) → counted_latch p (held_at p chars attrs r c) ≡ held_at p chars attrs r c
  unfolding counted_latch
  counted-held chars attrs r c = go (field_mode p) refl
    where
      go : (t : Bool) → field_mode p ≡ t → latched (pick t (held_at p chars attrs r c) 0) 0 ≡ held_at p chars attrs r c
      go true e = held_kept p chars attrs r c
      go false e = sym (held_plain p chars attrs e r c)

  -- ---- one code

  code-none : counted_code p 0 ≡ 0
  unfolding counted_code
  code-none = go (coded_of p)
    where
      go : (t : Bool) → pick t (0 % 4) 0 ≡ 0
      go true = refl
      go false = refl

  code-twice : (k : ℕ) → counted_code p (counted_code p k) ≡ counted_code p k
  unfolding counted_code
  code-twice k = go (coded_of p)
    where
      go : (t : Bool) → pick t (pick t (k % 4) 0 % 4) 0 ≡ pick t (k % 4) 0
      go true = omega arith
      go false = refl

  code-own : (chars : List ℕ) (r : ℕ) → counted_code p (code_at p chars r) ≡ code_at p chars r
  unfolding counted_code code_at
  code-own chars r = go (coded_of p) (byte_at chars (p.starts.start2 + 2 * r + 1))
    where
      go : (t : Bool) (byte : ℕ) → pick t (pick t (byte / 64 % 4) 0 % 4) 0 ≡ pick t (byte / 64 % 4) 0
      go true byte = omega arith
      go false byte = refl

  -- ---- what is carried

  abbrev pub Settled : Carried → Type 0
  Settled c = (counted_latch p c.beam.latch ≡ c.beam.latch) × (counted_latch p c.row.latch ≡ c.row.latch) × (counted_code p c.row.code ≡ c.row.code)

  begun-settled : (chars : List ℕ) (r : ℕ) (x : Row) → counted_latch p (begun_in p chars r (settled p x)).latch ≡ (begun_in p chars r (settled p x)).latch
  begun-settled chars r x = go (r == 0)
    where
      go : (t : Bool) → counted_latch p (pick t 0 (counted_latch p x.latch)) ≡ pick t 0 (counted_latch p x.latch)
      go true = counted_none
      go false = counted-twice x.latch

  pub loaded-settled : (chars : List ℕ) (q : Place) → Settled (loaded_in p chars q)
  unfolding loaded_in
  loaded-settled chars q = go (loads_at p q) (q.line.0 % lines_of p == 0)
    where
      r : ℕ
      r = q.line.0 / lines_of p

      x : Row
      x = row q.beam.address q.beam.latch q.row.code

      first : Row
      first = begun_in p chars r (held_in p q)

      again : Row
      again = settled p q.row

      go : (u w : Bool) → Settled (pick u (pick w (carried first first) (carried again again)) (carried (held_in p q) again))
      go true true = let e = begun-settled chars r x in (e, e, code-own chars r)
      go true false = (counted-twice q.row.latch, counted-twice q.row.latch, code-twice q.row.code)
      go false w = (counted-twice q.beam.latch, counted-twice q.row.latch, code-twice q.row.code)

  moved-settled : (attrs : List ℕ) (q : Place) (c : Carried) → Settled c → Settled (moved_in p attrs q c)
  unfolding moved_in
  moved-settled attrs q c h = go (active_at p q)
    where
      past : (again : Bool) (byte : ℕ) → counted_latch p (pick again c.beam.latch (latched (set_by p byte) c.beam.latch)) ≡ pick again c.beam.latch (latched (set_by p byte) c.beam.latch)
      past true byte = h.0
      past false byte = counted-set byte c.beam.latch h.0

      go : (t : Bool) → Settled (pick t (carried (past_cell p attrs q.clock.0 c.beam) c.row) c)
      go true = (past (again_at (code_of c.beam.code) q.clock.0) _, h.1, h.2)
      go false = h

  turned-settled : (q : Place) (c : Carried) → Settled c → settled_in p (turned_in p q c) ≡ turned_in p q c
  unfolding turned_in
  turned-settled q c h = go (nat_lt (q.clock.0 + 1) (ht_of p)) (nat_lt (q.line.0 + 1) (vt_of p))
    where
      to : (field line clock : ℕ) → Place
      to field line clock = placed field line clock c

      kept : (field line clock : ℕ) → settled_in p (to field line clock) ≡ to field line clock
      kept field line clock = rw (h.0, h.1, h.2)

      after : (u v : Bool) → Place
      after u v = pick u (to q.field q.line.0 (q.clock.0 + 1)) (pick v (to q.field (q.line.0 + 1) 0) (to ((q.field + 1) % 256) 0 0))

      go : (u v : Bool) → settled_in p (after u v) ≡ after u v
      go true v = kept _ _ _
      go false true = kept _ _ _
      go false false = kept _ _ _

  -- [R-1 counted]
  -- every step leaves latch bytes and a row code that count as they stand
  pub next-settled : (chars attrs : List ℕ) (q : Place) → settled_in p (next_place p chars attrs q) ≡ next_place p chars attrs q
  next-settled chars attrs q = turned-settled q _ (moved-settled attrs q _ (loaded-settled chars q))

  -- ---- at once

  row_settled : (chars attrs : List ℕ) (r c : ℕ) → Settled (row_at p chars attrs r c)
  unfolding row_at
  row_settled chars attrs r c = (counted-held chars attrs r c, counted-held chars attrs r 0, code-own chars r)

  -- [R-1 counted]
  -- so does every state worked out at once
  pub at-settled : (chars attrs : List ℕ) (n : ℕ) → settled_in p (place_at p chars attrs n) ≡ place_at p chars attrs n
  unfolding place_at
  at-settled chars attrs n =
      let s = carried-all p chars attrs Settled (row_settled chars attrs) (counted_none, counted_none, code-none) (clock_in p n) (line_in p n) (frame_in p n) in
      rw (s.0, s.1, s.2)
