-- What the beam carries: the carrier of `Cells.antt` with a latch and a row's code beside the address, and its rows at once. Assumes nothing.
--     beam_carrier    a clock that fetches a cell latches its byte, and after a cell's last column it moves on, by the code that is carried; row 0 begins with
--                    nothing latched, a later row with what is latched then, and each with its own code
--     held_at        what is latched when a column of a row is reached, at once
--     held-in-row   the same from what the row began with
--     beams-lawful   the two agree
use Rattle.std.specs.Prelude.{◌≡◌, eqb}
use Rattle.std.proofs.Common.{sym, ap, ap₂, ◌∙◌, le-ltb, ne_eqb}
use Prim.Native.Nat.{ℕ, suc, min, ◌+◌, ◌*◌, ◌/◌, ◌%◌, ◌<◌}
use Rattle.std.proofs.Math.Nat.{zero-mul, suc-mul}
use Rattle.std.proofs.Math.Decide.{dec_lt}
use native.Mathlib.Omega.{arith}
use Rattle.std.proofs.Math.Arith.{digits_div, digits_mod}
use Rattle.lists.specs.Choice.{pick}
use Rattle.raster.specs.declared.Counts.{Counts}
use Rattle.raster.specs.declared.Beam.{Beam}
use Rattle.raster.specs.declared.Row.{Row}
use Rattle.raster.specs.declared.Cell.{Cell}
use Rattle.raster.specs.Moves.{cell, advance}
use Rattle.raster.specs.Raster.{HT, HACT, Good, Carrier, Rows, steps, origin, at_once}
use Rattle.raster.specs.Agree.{Laws, steps-meet}
use Rattle.raster.specs.Wide.{code_of, fetches_at, moves_at}
use Rattle.raster.specs.Cells.{Feed, Tally, begins, moves_on, moves_by, start_of, cell_of, Fed, Tallied, cells-lawful}
use Rattle.raster.specs.Latch.{latched, last_set, last-split, same-last, sets-or}

-- what the beam has of it, and a row
abbrev pub beam : (address latch : ℕ) → Beam
beam a l = record { address = a; latch = l }

abbrev pub row : (address latch code : ℕ) → Row
row a l k = record { address = a; latch = l; code = k }

-- code: a row's own; sets: the attribute byte of the cell at an address; one without AFLG sets nothing
module _ (g : Counts) (e : Feed) (code sets : ℕ → ℕ) where
  -- ---- one clock

  -- [R-1 frame] at the start of a frame nothing is latched
  -- at the start of a frame nothing is latched
  abbrev pub begins_latch : ℕ → ℕ → ℕ
  begins_latch r held = pick (eqb r 0) 0 held

  -- a clock that fetches
  abbrev pub moves_latch : (code c address held : ℕ) → ℕ
  moves_latch k c a held = pick (fetches_at g (code_of k) c) (latched (sets a) held) held

  abbrev pub moves_cell : (code c address : ℕ) → ℕ
  moves_cell k c a = pick (moves_at g (code_of k) c) (advance e.buffer a) a

  -- [R-4 code]
  abbrev pub beam_carrier : Carrier Row
  beam_carrier = record {
    zeroth = row 0 0 0;
    begin = λ r d. row (begins e r d.address) (begins_latch r d.latch) (code r);
    move = λ r c d. row (moves_cell d.code c d.address) (moves_latch d.code c d.address d.latch) d.code;
  }

  -- ---- at once

  module _ (t : Tally) where
    -- the byte that the column sets which comes after k others, from row 0, column 0 of the frame on
    abbrev pub fetched : ℕ → ℕ
    fetched k = pick (fetches_at g (code_of (code (k / HACT g))) (k % HACT g)) (sets (cell_of e t (k / HACT g) (k % HACT g))) 0

    -- when column c of row r is reached: the last cell with AFLG of those fetched in the frame, or none
    unfoldable pub held_at : (r c : ℕ) → ℕ
    held_at r c = last_set fetched 0 (r * HACT g + min c (HACT g))

    -- [R-1 lines] each scan line of a row starts with what was valid at the end of the previous row
    abbrev pub beam_rows : Rows Row
    beam_rows = record { start = λ r. row (start_of e t r) (held_at r 0) (code r); walk = λ r c. row (cell_of e t r c) (held_at r c) (code r) }

    -- ---- the two agree

    -- what column c of row r sets
    abbrev pub set_at : (r c : ℕ) → ℕ
    set_at r c = pick (fetches_at g (code_of (code r)) c) (sets (cell_of e t r c)) 0

    fetched-at : (r c : ℕ) → c < HACT g → fetched (r * HACT g + c) ≡ set_at r c
    fetched-at r c h = rw (digits_div r h, digits_mod r h)

    pub held-in-row : (r c : ℕ) → c < suc (HACT g) → held_at r c ≡ last_set (set_at r) (held_at r 0) c
    unfolding held_at
    held-in-row r c h =
        let m : min c (HACT g) ≡ c = omega arith in
        let z : r * HACT g + min 0 (HACT g) ≡ r * HACT g = omega arith in
        rw (m, z) (last-split fetched 0 (r * HACT g) c ∙ same-last _ (set_at r) _ c (λ i l. fetched-at r i (omega arith)))

    held-suc : (r c : ℕ) → held_at r (suc c) ≡ moves_latch (code r) c (cell_of e t r c) (held_at r c)
    unfolding held_at last_set
    held-suc r c = go (dec_lt c (HACT g))
      where
        go : Dec (c < HACT g) → held_at r (suc c) ≡ moves_latch (code r) c (cell_of e t r c) (held_at r c)
        go (yes h) =
            let m : min c (HACT g) ≡ c = omega arith in
            let n : r * HACT g + min (suc c) (HACT g) ≡ suc (r * HACT g + c) = omega arith in
            rw (n, m)
            (ap (λ (x : ℕ). latched x (last_set fetched 0 (r * HACT g + c))) (fetched-at r c h)
            ∙ sets-or (fetches_at g (code_of (code r)) c) (sets (cell_of e t r c)) (last_set fetched 0 (r * HACT g + c)))
        go (no f) =
            let m : min (suc c) (HACT g) ≡ min c (HACT g) = omega arith in
            rw (le-ltb c (HACT g) (omega arith), m)

    held-zero : held_at 0 0 ≡ 0
    unfolding held_at last_set
    held-zero =
        let z : 0 * HACT g + min 0 (HACT g) ≡ 0 = omega (arith, zero-mul (HACT g)) in
        rw z

    pub valid-next : Good g → (r : ℕ) → held_at r (HT g) ≡ held_at (suc r) 0
    unfolding held_at
    valid-next o r =
        let m : min (HT g) (HACT g) ≡ HACT g = omega (arith, o.hact-lt) in
        let n : suc r * HACT g + min 0 (HACT g) ≡ r * HACT g + HACT g = omega (arith, suc-mul r (HACT g)) in
        rw (m, n)

    module _ (q : e.moves ≡ moves_by g code) (d : Fed e) (v : Tallied g e t) (o : Good g) where
      -- by the code that is carried, or by the row's
      cell-moves : (r c a : ℕ) → moves_on e r c a ≡ moves_cell (code r) c a
      unfolding moves_on
      cell-moves r c a = rw q

      pub beams-lawful : Laws g beam_carrier beam_rows
      beams-lawful =
          let k = cells-lawful g e t d v in
          record {
            walk-zero = λ r h. ap (λ (x : Cell). row x.address (held_at r 0) (code r)) (k.walk-zero r h);
            walk-suc = λ r c h l.
                ap₂ (λ (a x : ℕ). row a x (code r)) (ap (λ (x : Cell). x.address) (k.walk-suc r c h l) ∙ cell-moves r c (cell_of e t r c)) (held-suc r c);
            start-zero = λ x. ap₂ (λ (a l : ℕ). row a l (code 0)) (ap (λ (y : Cell). y.address) (k.start-zero (cell x.address))) (sym held-zero);
            start-suc = λ r h.
                ap₂ (λ (a l : ℕ). row a l (code (suc r))) (ap (λ (y : Cell). y.address) (k.start-suc r h)) (rw (ne_eqb (suc r) 0 (omega arith)) (valid-next o r));
          }

      pub beams-meet : (n : ℕ) → steps g beam_carrier n (origin g beam_carrier) ≡ at_once g beam_rows (row 0 0 0) n
      beams-meet n = steps-meet g beam_carrier beam_rows o beams-lawful n
