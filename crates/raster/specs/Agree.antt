-- One clock at a time, and at once: they agree for every n, whatever is carried. Assumes nothing.
--     Laws         the four equations by which Rows fits a Carrier
--     steps-meet   with those, n single steps from clock 0 come to `at_once n`
--     loaded-meets what a clock of a visible line works on, once it has loaded
use Rattle.std.specs.Prelude.{◌≡◌}
use Rattle.std.proofs.Math.Path.{refl, ap}
use Rattle.std.proofs.Common.{sym, ap₂, ◌∙◌, mod-lt, div-lt_iff_lt-mul, mul-div_cancel, arith}
use Prim.Native.Nat.{ℕ, zero, suc, pred, ◌+◌, ◌*◌, ◌/◌, ◌%◌, ◌≤◌, ◌<◌}
use Rattle.std.proofs.Math.Nat.{zero-div, zero-mod, mul-mod_left, mul-pos}
use Rattle.std.proofs.Math.Decide.{dec_lt}
use Rattle.std.proofs.Math.Numerals.{add-one}
use borrow.Author.Tests.{lt-ltb, le-ltb, eq-eqb, ne_eqb}
use Rattle.raster.specs.declared.Counts.{Counts}
use Rattle.raster.specs.Tick.{Tick, up, carry, tick}
use Rattle.raster.specs.Raster.{HT, VT, L, R, Good, clocks-some, frame-some, Carrier, Pair, pair, scan, turn, loaded, onward, step, steps, origin, Rows, tail, in_line, carried_at, at_once}

pub record Laws {D : Type 0} (g : Counts) (m : Carrier D) (w : Rows D) : Type 0 where
  pub walk-zero : (r : ℕ) → r < R g → w.walk r 0 ≡ w.start r
  pub walk-suc : (r c : ℕ) → r < R g → c < HT g → w.walk r (suc c) ≡ m.move r c (w.walk r c)
  pub start-zero : (d : D) → m.begin 0 d ≡ w.start 0
  pub start-suc : (r : ℕ) → suc r < R g → m.begin (suc r) (w.walk r (HT g)) ≡ w.start (suc r)

module _ {D : Type 0} (g : Counts) (w : Rows D) where
  visible : (c line : ℕ) → line < R g * L g → in_line g w c line ≡ pair (w.walk (line / L g) c) (w.start (line / L g))
  unfolding in_line
  visible c line h = rw (lt-ltb line (R g * L g) h)

  hidden : (c line : ℕ) → R g * L g ≤ line → in_line g w c line ≡ tail g w
  unfolding in_line
  hidden c line h = rw (le-ltb line (R g * L g) h)

module _ {D : Type 0} (g : Counts) (m : Carrier D) where
  loaded_on : (line c : ℕ) (p : Pair D) → loaded g m line (suc c) p ≡ p
  unfolding loaded
  loaded_on line c p = rw (ne_eqb (suc c) 0 (omega arith))

  loaded-first : (line : ℕ) (p : Pair D) → line % L g ≡ 0
      → loaded g m line 0 p ≡ pair (m.begin (line / L g) p.beam) (m.begin (line / L g) p.beam)
  unfolding loaded
  loaded-first line p e = rw (eq-eqb (line % L g) 0 e)

  loaded-again : (line : ℕ) (p : Pair D) → (line % L g ≡ 0 → ⊥) → loaded g m line 0 p ≡ pair p.row p.row
  unfolding loaded
  loaded-again line p f = rw (ne_eqb (line % L g) 0 f)

  onward-shown : (line c : ℕ) (p : Pair D) (a b : D) → line < R g * L g → loaded g m line c p ≡ pair a b
      → onward g m line c p ≡ pair (m.move (line / L g) c a) b
  unfolding onward
  onward-shown line c p a b h e = rw (lt-ltb line (R g * L g) h, e)

  onward-hidden : (line c : ℕ) (p : Pair D) → R g * L g ≤ line → onward g m line c p ≡ p
  unfolding onward
  onward-hidden line c p h = rw (le-ltb line (R g * L g) h)

module _ {D : Type 0} (g : Counts) (m : Carrier D) (w : Rows D) (s : Good g) (k : Laws g m w) where
  row_lt : (line : ℕ) → line < R g * L g → line / L g < R g
  row_lt line h = (div-lt_iff_lt-mul s.lines-some).1 h

  last_row : (line : ℕ) → line < R g * L g → R g * L g ≤ suc line → line / L g ≡ pred (R g)
  last_row line h l = go (tick line s.lines-some)
    where
      e : suc line ≡ R g * L g
      e = omega arith

      go : Tick (L g) line → line / L g ≡ pred (R g)
      go (up a p q) =
          let z : suc line % L g ≡ 0 = ap (λ (x : ℕ). x % L g) e ∙ mul-mod_left (R g) (L g) in
          absurd (omega arith)
      go (carry a p q) =
          let z : suc line / L g ≡ R g = ap (λ (x : ℕ). x / L g) e ∙ mul-div_cancel (R g) s.lines-some in
          omega arith

  -- what is loaded at a row's start is the row's start
  started : (line : ℕ) (b : D) → line < R g * L g → b ≡ w.start (line / L g)
      → pair b b ≡ pair (w.walk (line / L g) 0) (w.start (line / L g))
  started line b h e = ap₂ pair (e ∙ sym (k.walk-zero (line / L g) (row_lt line h))) e

  top : (p : Pair D) → 0 < R g * L g → loaded g m 0 0 p ≡ pair (w.walk (0 / L g) 0) (w.start (0 / L g))
  top p h =
      loaded-first g m 0 p (zero-mod (L g))
      ∙ started 0 (m.begin (0 / L g) p.beam) h
      (ap (λ (x : ℕ). m.begin x p.beam) (zero-div (L g)) ∙ k.start-zero p.beam ∙ ap w.start (sym (zero-div (L g))))

  down : (line : ℕ) → suc line < R g * L g → Tick (L g) line
      → loaded g m (suc line) 0 (pair (w.walk (line / L g) (HT g)) (w.start (line / L g)))
      ≡ pair (w.walk (suc line / L g) 0) (w.start (suc line / L g))
  down line h (up a p q) =
      loaded-again g m (suc line) (pair (w.walk (line / L g) (HT g)) (w.start (line / L g))) (λ z. omega arith)
      ∙ started (suc line) (w.start (line / L g)) h (ap w.start (sym q))
  down line h (carry a p q) =
      loaded-first g m (suc line) (pair (w.walk (line / L g) (HT g)) (w.start (line / L g))) p
      ∙ started (suc line) (m.begin (suc line / L g) (w.walk (line / L g) (HT g))) h
      (ap (λ (x : ℕ). m.begin x (w.walk (line / L g) (HT g))) q
      ∙ k.start-suc (line / L g) (omega (arith, row_lt (suc line) h))
      ∙ ap w.start (sym q))

  -- on a visible line: what clock c works on, once it has loaded
  pub loaded-meets : (z : D) (c line frame : ℕ) → line < R g * L g
      → loaded g m line c (carried_at g w z c line frame) ≡ pair (w.walk (line / L g) c) (w.start (line / L g))
  unfolding carried_at
  loaded-meets z (suc c) line frame h = loaded_on g m line c (in_line g w (suc c) line) ∙ visible g w (suc c) line h
  loaded-meets z zero zero zero h = top (pair z z) h
  loaded-meets z zero zero (suc frame) h = top (tail g w) h
  loaded-meets z zero (suc line) frame h =
      ap (loaded g m (suc line) 0) (visible g w (HT g) line (omega arith)) ∙ down line h (tick line s.lines-some)

  -- on any other line: what the last row left
  idle-meets : (z : D) (c line frame : ℕ) → R g * L g ≤ line → carried_at g w z c line frame ≡ tail g w
  unfolding carried_at tail
  idle-meets z (suc c) line frame l = hidden g w (suc c) line l
  idle-meets z zero zero zero l = absurd (omega (arith, mul-pos s.rows-some s.lines-some))
  idle-meets z zero zero (suc frame) l = refl
  idle-meets z zero (suc line) frame l = go (dec_lt line (R g * L g))
    where
      go : Dec (line < R g * L g) → in_line g w (HT g) line ≡ tail g w
      go (yes h) =
          visible g w (HT g) line h
          ∙ ap (λ (x : ℕ). pair (w.walk x (HT g)) (w.start x)) (last_row line h l)
      go (no f) = hidden g w (HT g) line (omega arith)

  onward-meets : (z : D) (c line frame : ℕ) → c < HT g → onward g m line c (carried_at g w z c line frame) ≡ in_line g w (suc c) line
  onward-meets z c line frame hc = go (dec_lt line (R g * L g))
    where
      p : Pair D
      p = carried_at g w z c line frame

      r : ℕ
      r = line / L g

      go : Dec (line < R g * L g) → onward g m line c p ≡ in_line g w (suc c) line
      go (yes h) =
          onward-shown g m line c p (w.walk r c) (w.start r) h (loaded-meets z c line frame h)
          ∙ ap (λ (x : D). pair x (w.start r)) (sym (k.walk-suc r c (row_lt line h) hc))
          ∙ sym (visible g w (suc c) line h)
      go (no f) =
          let l : R g * L g ≤ line = omega arith in
          onward-hidden g m line c p l ∙ idle-meets z c line frame l ∙ sym (hidden g w (suc c) line l)

  -- the place after a clock
  turn_on : (f l c : ℕ) (p : Pair D) → suc c < HT g → turn g f l c p ≡ scan f l (suc c) p
  unfolding turn
  turn_on f l c p h = rw (add-one c, lt-ltb (suc c) (HT g) h)

  turn-line : (f l c : ℕ) (p : Pair D) → suc c ≡ HT g → suc l < VT g → turn g f l c p ≡ scan f (suc l) 0 p
  unfolding turn
  turn-line f l c p e h = rw (add-one c, le-ltb (suc c) (HT g) (omega arith), add-one l, lt-ltb (suc l) (VT g) h)

  turn-frame : (f l c : ℕ) (p : Pair D) → suc c ≡ HT g → suc l ≡ VT g → turn g f l c p ≡ scan ((f + 1) % 256) 0 0 p
  unfolding turn
  turn-frame f l c p e h = rw (add-one c, le-ltb (suc c) (HT g) (omega arith), add-one l, le-ltb (suc l) (VT g) (omega arith))

  counted : (f : ℕ) → (f % 256 + 1) % 256 ≡ suc f % 256
  counted f = omega arith

  pub step-meets : (z : D) (n : ℕ) → step g m (at_once g w z n) ≡ at_once g w z (suc n)
  unfolding step at_once carried_at
  step-meets z n =
      ap (turn g (f % 256) l c) (onward-meets z c l f (mod-lt n (clocks-some g s)))
      ∙ go (tick n (clocks-some g s))
    where
      c : ℕ
      c = n % HT g

      y : ℕ
      y = n / HT g

      l : ℕ
      l = y % VT g

      f : ℕ
      f = y / VT g

      below : suc c ≡ HT g → Tick (VT g) y
          → turn g (f % 256) l c (in_line g w (HT g) l)
          ≡ scan (suc y / VT g % 256) (suc y % VT g) 0 (carried_at g w z 0 (suc y % VT g) (suc y / VT g))
      below e (up a p q) = rw (p, q) (turn-line (f % 256) l c (in_line g w (HT g) l) e a)
      below e (carry a p q) =
          rw (p, q)
          (turn-frame (f % 256) l c (in_line g w (HT g) l) e a
          ∙ ap₂ (λ (x : ℕ) (d : Pair D). scan x 0 0 d) (counted f) (hidden g w (HT g) l (omega (arith, s.porch))))

      go : Tick (HT g) n → turn g (f % 256) l c (in_line g w (suc c) l) ≡ at_once g w z (suc n)
      go (up a p q) = rw (p, q) (turn_on (f % 256) l c (in_line g w (suc c) l) a)
      go (carry a p q) = rw (p, q, a) (below a (tick y (frame-some g s)))

  at-origin : origin g m ≡ at_once g w m.zeroth 0
  unfolding origin at_once carried_at
  at-origin = simp (zero-div, zero-mod)

  -- [demand at-once]
  -- n single steps from clock 0 come to the state for clock n
  pub steps-meet : (n : ℕ) → steps g m n (origin g m) ≡ at_once g w m.zeroth n
  unfolding steps
  steps-meet zero = at-origin
  steps-meet (suc n) = ap (step g m) (steps-meet n) ∙ step-meets m.zeroth n
