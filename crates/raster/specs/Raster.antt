-- The walk of the beam over the frame, for any data D that it carries along. Assumes nothing.
--     Good         what the beam asks of its counts
--     Carrier D    what is carried at clock 0, what a row begins with, and what a clock of a row does to it
--     Scan D       the state: field, line, clock, what is carried now, and what the row began with
--     step         one clock
--     Rows D       what each row begins with, and what is carried at each column of each row, at once
--     at_once       the state at clock n, at once, by n's quotients and remainders
use Rattle.std.specs.Prelude.{ℕ, zero, suc, pred, ◌+◌, ◌*◌, ◌/◌, ◌%◌, ◌≤◌, ◌<◌, ltb, eqb}
use Rattle.std.proofs.Common.{arith}
use Rattle.lists.specs.Choice.{pick}
use Rattle.raster.specs.declared.Counts.{Counts}

-- clocks per line, active clocks, lines per frame, lines per row, rows
abbrev pub HT : Counts → ℕ
HT g = g.ht.0

abbrev pub HACT : Counts → ℕ
HACT g = g.hact.0

abbrev pub VT : Counts → ℕ
VT g = g.vt.0

abbrev pub L : Counts → ℕ
L g = g.lines.0

abbrev pub R : Counts → ℕ
R g = g.rows

-- no more than this is asked, so that another chip fits
pub record Good (g : Counts) : Type 0 where
  pub ht-le : HT g ≤ 384
  pub hact-some : 0 < HACT g
  pub hact-lt : HACT g < HT g
  pub lines-some : 0 < L g
  pub lines-le : L g ≤ 32
  pub rows-some : 0 < R g
  pub porch : R g * L g < VT g
  pub vt-le : VT g ≤ 8192

pub clocks-some : (g : Counts) → Good g → 0 < HT g
clocks-some g o = omega (arith, o.hact-lt)

pub frame-some : (g : Counts) → Good g → 0 < VT g
frame-some g o = omega (arith, o.porch)

pub record Carrier (D : Type 0) : Type 0 where
  pub zeroth : D
  pub begin : ℕ → D → D
  pub move : ℕ → ℕ → D → D

pub record Pair (D : Type 0) : Type 0 where
  pub beam : D
  pub row : D

abbrev pub pair : {D : Type 0} → D → D → Pair D
pair a b = record { beam = a; row = b }

pub record Scan (D : Type 0) : Type 0 where
  pub field : ℕ
  pub line : ℕ
  pub clock : ℕ
  pub carried : Pair D

abbrev pub scan : {D : Type 0} → ℕ → ℕ → ℕ → Pair D → Scan D
scan f l c p = record { field = f; line = l; clock = c; carried = p }

-- ---- one clock

module _ {D : Type 0} (g : Counts) where
  -- [clock field]
  -- where the beam is after this clock
  unfoldable pub turn : (field line clock : ℕ) → Pair D → Scan D
  turn field line clock p =
      pick (ltb (clock + 1) (HT g))
      (scan field line (clock + 1) p)
      (pick (ltb (line + 1) (VT g))
      (scan field (line + 1) 0 p)
      (scan ((field + 1) % 256) 0 0 p))

module _ {D : Type 0} (g : Counts) (m : Carrier D) where
  -- [fetch load]
  -- on column 0 of a visible line what is carried is loaded: the first line of a row begins the row, the later lines load its start again
  unfoldable pub loaded : (line clock : ℕ) → Pair D → Pair D
  loaded line clock p =
      pick (eqb clock 0)
      (pick (eqb (line % L g) 0)
      (pair (m.begin (line / L g) p.beam) (m.begin (line / L g) p.beam))
      (pair p.row p.row))
      p

  -- what is carried after this clock
  unfoldable pub onward : (line clock : ℕ) → Pair D → Pair D
  onward line clock p =
      pick (ltb line (R g * L g))
      (pair (m.move (line / L g) clock (loaded line clock p).beam) (loaded line clock p).row)
      p

  unfoldable pub step : Scan D → Scan D
  step s = turn g s.field s.line s.clock (onward s.line s.clock s.carried)

  unfoldable pub steps : ℕ → Scan D → Scan D
  steps zero s = s
  steps (suc n) s = step (steps n s)

  unfoldable pub origin : Scan D
  origin = scan 0 0 0 (pair m.zeroth m.zeroth)

-- ---- at once

pub record Rows (D : Type 0) : Type 0 where
  pub start : ℕ → D
  pub walk : ℕ → ℕ → D

module _ {D : Type 0} (g : Counts) (w : Rows D) where
  -- what is carried when the last row is done, until the next frame
  unfoldable pub tail : Pair D
  tail = pair (w.walk (pred (R g)) (HT g)) (w.start (pred (R g)))

  -- what is carried after c clocks of the line
  unfoldable pub in_line : (c line : ℕ) → Pair D
  in_line c line =
      pick (ltb line (R g * L g))
      (pair (w.walk (line / L g) c) (w.start (line / L g)))
      tail

  -- what is carried before clock c of the line: before clock 0, what the line before it left
  unfoldable pub carried_at : (z : D) (c line frame : ℕ) → Pair D
  carried_at z (suc c) line frame = in_line (suc c) line
  carried_at z zero (suc line) frame = in_line (HT g) line
  carried_at z zero zero (suc frame) = tail
  carried_at z zero zero zero = pair z z

  unfoldable pub at_once : D → ℕ → Scan D
  at_once z n =
      scan (n / HT g / VT g % 256) (n / HT g % VT g) (n % HT g)
      (carried_at z (n % HT g) (n / HT g % VT g) (n / HT g / VT g))
