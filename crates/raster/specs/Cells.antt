-- Which cell is fetched (01): the carrier of `Raster.antt` at a cell, and its rows at once. Assumes nothing.
--     Feed          the buffer, screen start 1, the row table, and at which clocks of a row the address moves on
--     Tally         how often it has moved on by a column of a row, at once
--     carrier       the cell as the beam carries it
--     cell_rows        each row's start, and the cell at each of its columns, at once
--     cells_meet    n single steps from clock 0 come to `at_once` of these
--     cells-inside  with the table off and an ordered buffer every cell is in the buffer
use Rattle.std.specs.Prelude.{◌≡◌, Bool, eqb}
use Rattle.std.proofs.Math.Path.{refl, sym, ap}
use Rattle.std.proofs.Common.{◌∙◌, zero-mul, arith, ne_eqb}
use Rattle.std.proofs.Math.Bool.{true, false}
use Prim.Native.Nat.{ℕ, suc, ◌+◌, ◌*◌, ◌<◌}
use Rattle.std.proofs.Math.Nat.{suc-mul, add_comm}
use Rattle.lists.specs.Choice.{pick}
use Rattle.raster.specs.declared.Counts.{Counts}
use Rattle.raster.specs.declared.Buffer.{Buffer}
use Rattle.raster.specs.declared.Cell.{Cell}
use Rattle.raster.specs.Moves.{cell, advance, advance_by, Bounded, advance_by-zero, advance_by-suc, advance_by-add, advance_by-lt, advance_by-inside, Inside}
use Rattle.raster.specs.Raster.{HT, HACT, Good, Carrier, Rows, steps, origin, at_once}
use Rattle.raster.specs.Agree.{Laws, steps-meet}
use Rattle.raster.specs.Wide.{code_of, moves_at, moved_at, moved-zero, moved-suc, moved_all}

pub record Feed : Type 0 where
  pub buffer : Buffer
  pub start1 : ℕ
  pub table : Bool
  pub entry : ℕ → ℕ
  pub moves : ℕ → ℕ → Bool

-- per_row: how often the address moves on in a row, where the rows carry on
pub record Tally : Type 0 where
  pub moved : ℕ → ℕ → ℕ
  pub per_row : ℕ

-- ---- one clock

-- the first line of a row: the table's entry; else screen start 1 for row 0; else it carries on
unfoldable pub begins : Feed → ℕ → ℕ → ℕ
begins e r a = pick e.table (e.entry r) (pick (eqb r 0) e.start1 a)

unfoldable pub moves_on : Feed → ℕ → ℕ → ℕ → ℕ
moves_on e r c a = pick (e.moves r c) (advance e.buffer a) a

abbrev pub carrier : Feed → Carrier Cell
carrier e = record {
  zeroth = cell 0;
  begin = λ r d. cell (begins e r d.address);
  move = λ r c d. cell (moves_on e r c d.address);
}

-- ---- at once

unfoldable pub start_of : Feed → Tally → ℕ → ℕ
start_of e t r = pick e.table (e.entry r) (advance_by e.buffer (r * t.per_row) e.start1)

unfoldable pub cell_of : Feed → Tally → ℕ → ℕ → ℕ
cell_of e t r c = advance_by e.buffer (t.moved r c) (start_of e t r)

abbrev pub cell_rows : Feed → Tally → Rows Cell
cell_rows e t = record { start = λ r. cell (start_of e t r); walk = λ r c. cell (cell_of e t r c) }

-- by the rows' codes
abbrev pub moves_by : Counts → (code : ℕ → ℕ) → ℕ → ℕ → Bool
moves_by g code r c = moves_at g (code_of (code r)) c

abbrev pub tally_by : Counts → (code : ℕ → ℕ) → Tally
tally_by g code = record { moved = λ r c. moved_at g (code_of (code r)) c; per_row = HACT g }

-- ---- the two agree

pub record Fed (e : Feed) : Type 0 where
  pub bounded : Bounded e.buffer
  pub start1-lt : e.start1 < 16384
  pub entry_lt : (r : ℕ) → e.entry r < 16384

pub record Tallied (g : Counts) (e : Feed) (t : Tally) : Type 0 where
  pub none_yet : (r : ℕ) → t.moved r 0 ≡ 0
  pub one_more : (r c : ℕ) → c < HT g → t.moved r (suc c) ≡ pick (e.moves r c) (suc (t.moved r c)) (t.moved r c)
  pub in_a_row : e.table ≡ false → (r : ℕ) → t.moved r (HT g) ≡ t.per_row

-- without a row table no row has a code
pub by-code-tallied : (g : Counts) (e : Feed) (code : ℕ → ℕ) → Good g → e.moves ≡ moves_by g code → (e.table ≡ false → (r : ℕ) → code r ≡ 0) → Tallied g e (tally_by g code)
by-code-tallied g e code o q plain = record {
  none_yet = λ r. moved-zero g o.hact-some (code_of (code r));
  one_more = λ r c h. rw q (moved-suc g (code_of (code r)) c);
  in_a_row = λ off r. moved_all g (code_of (code r)) (HT g) (omega (arith, o.hact-lt)) ∙ rw (plain off r);
}

module _ (g : Counts) (e : Feed) (t : Tally) (d : Fed e) (v : Tallied g e t) where
  pub start-lt : (r : ℕ) → start_of e t r < 16384
  unfolding start_of
  start-lt r = go e.table
    where
      go : (b : Bool) → pick b (e.entry r) (advance_by e.buffer (r * t.per_row) e.start1) < 16384
      go true = d.entry_lt r
      go false = advance_by-lt e.buffer (r * t.per_row) e.start1

  pub cell-zero : (r : ℕ) → cell_of e t r 0 ≡ start_of e t r
  unfolding cell_of
  cell-zero r =
      ap (λ (x : ℕ). advance_by e.buffer x (start_of e t r)) (v.none_yet r)
      ∙ advance_by-zero e.buffer (start_of e t r) (start-lt r)

  pub cell-suc : (r c : ℕ) → c < HT g → cell_of e t r (suc c) ≡ moves_on e r c (cell_of e t r c)
  unfolding cell_of moves_on
  cell-suc r c h = ap (λ (x : ℕ). advance_by e.buffer x a) (v.one_more r c h) ∙ go (e.moves r c)
    where
      a : ℕ
      a = start_of e t r

      k : ℕ
      k = t.moved r c

      go : (b : Bool)
          → advance_by e.buffer (pick b (suc k) k) a ≡ pick b (advance e.buffer (advance_by e.buffer k a)) (advance_by e.buffer k a)
      go true = advance_by-suc e.buffer d.bounded k a (start-lt r)
      go false = refl

  begin-zero : (a : ℕ) → begins e 0 a ≡ start_of e t 0
  unfolding begins start_of
  begin-zero a = go e.table
    where
      go : (b : Bool) → pick b (e.entry 0) e.start1 ≡ pick b (e.entry 0) (advance_by e.buffer (0 * t.per_row) e.start1)
      go true = refl
      go false =
          sym
          (ap (λ (x : ℕ). advance_by e.buffer x e.start1) (zero-mul t.per_row)
          ∙ advance_by-zero e.buffer e.start1 d.start1-lt)

  begin-suc : (r : ℕ) → begins e (suc r) (cell_of e t r (HT g)) ≡ start_of e t (suc r)
  unfolding begins start_of cell_of
  begin-suc r = go e.table refl
    where
      more : suc r * t.per_row ≡ t.per_row + r * t.per_row
      more = suc-mul r t.per_row ∙ add_comm (r * t.per_row) t.per_row

      go : (b : Bool) → e.table ≡ b → begins e (suc r) (cell_of e t r (HT g)) ≡ start_of e t (suc r)
      go true q = rw q
      go false q =
          rw (q, ne_eqb (suc r) 0 (omega arith), v.in_a_row q r)
          (sym
          (ap (λ (x : ℕ). advance_by e.buffer x e.start1) more
          ∙ advance_by-add e.buffer d.bounded t.per_row (r * t.per_row) e.start1 d.start1-lt))

  pub cells-lawful : Laws g (carrier e) (cell_rows e t)
  cells-lawful = record {
    walk-zero = λ r h. ap cell (cell-zero r);
    walk-suc = λ r c h l. ap cell (cell-suc r c l);
    start-zero = λ x. ap cell (begin-zero x.address);
    start-suc = λ r h. ap cell (begin-suc r);
  }

  pub cells_meet : Good g → (n : ℕ) → steps g (carrier e) n (origin g (carrier e)) ≡ at_once g (cell_rows e t) (cell 0) n
  cells_meet o n = steps-meet g (carrier e) (cell_rows e t) o cells-lawful n

-- ---- the range

pub cells-inside : (e : Feed) (t : Tally) → e.table ≡ false → e.buffer.last < 16384 → Inside e.buffer e.start1
    → (r c : ℕ) → Inside e.buffer (cell_of e t r c)
unfolding cell_of start_of
cells-inside e t q h i r c =
    rw q
    (advance_by-inside e.buffer h (t.moved r c) (advance_by e.buffer (r * t.per_row) e.start1)
    (advance_by-inside e.buffer h (r * t.per_row) e.start1 i))
