-- 02, R-4: a row's code, and what it makes of the row's columns. Assumes nothing.
--     wide-tallied   how often the beam has moved on by a column is what its moves come to
use Rattle.std.specs.Prelude.{◌≡◌, refl, Bool, true, false, not, ◌&&◌, ◌||◌, ℕ, suc, ◌+◌, ◌/◌, ◌%◌, ◌<◌, ◌≤◌, ltb, eqb}
use Rattle.std.proofs.Math.Decide.{dec_lt, ℕ_discrete}
use Rattle.std.proofs.Common.{arith, lt-ltb, le-ltb, eq-eqb, ne_eqb}
use Rattle.lists.specs.Choice.{pick}
use Rattle.raster.specs.declared.Counts.{Counts}
use Rattle.raster.specs.declared.Code.{Code}
use Rattle.raster.specs.declared.Code.TheVariants.{Plain, Wide, Top, Bottom}
use Rattle.raster.specs.Raster.{HACT}

-- [R-4 code]
-- of a code byte two bits count: 00 plain, 01 double width, 10 double width and top half, 11 double width and bottom half
abbrev pub code_of : ℕ → Code
code_of byte = pick (eqb (byte % 4) 0) Plain (pick (eqb (byte % 4) 1) Wide (pick (eqb (byte % 4) 2) Top Bottom))

abbrev pub is_wide : Code → Bool
is_wide Plain = false
is_wide Wide = true
is_wide Top = true
is_wide Bottom = true

abbrev pub is_top : Code → Bool
is_top Plain = false
is_top Wide = false
is_top Top = true
is_top Bottom = false

abbrev pub is_bottom : Code → Bool
is_bottom Plain = false
is_bottom Wide = false
is_bottom Top = false
is_bottom Bottom = true

-- [R-4 step]
-- an odd column of a double width row shows the cell of the column before it again
abbrev pub again_at : Code → (c : ℕ) → Bool
again_at k c = is_wide k && eqb (c % 2) 1

-- [R-4 step] the stepper fetches on even columns, shows that again on the odd one, and moves on after a cell's last column
-- every other active clock fetches
abbrev pub fetches_at : Counts → Code → (c : ℕ) → Bool
fetches_at g k c = ltb c (HACT g) && not (again_at k c)

-- [R-4 step]
-- a cell's last column
abbrev pub ends_at : Counts → Code → (c : ℕ) → Bool
ends_at g k c = not (is_wide k) || (eqb (c % 2) 1 || eqb (c + 1) (HACT g))

-- [R-4 step]
-- after it the beam moves on
abbrev pub moves_at : Counts → Code → (c : ℕ) → Bool
moves_at g k c = ltb c (HACT g) && ends_at g k c

-- [R-4 run] its first run counts the cells fetched, half of HACT rounded up
-- the cells that a row fetches: half of HACT, rounded up, where it is of double width
abbrev pub fetched_in : Counts → Code → ℕ
fetched_in g k = pick (is_wide k) ((HACT g + 1) / 2) (HACT g)

-- [R-4 width]
-- how often it has moved on by a column
abbrev pub moved_at : Counts → Code → (c : ℕ) → ℕ
moved_at g k c = pick (ltb c (HACT g)) (pick (is_wide k) (c / 2) c) (fetched_in g k)

-- ---- the two agree

module _ (g : Counts) where
  pub moved-zero : 0 < HACT g → (k : Code) → moved_at g k 0 ≡ 0
  moved-zero h k = rw (lt-ltb 0 (HACT g) h) (go (is_wide k))
    where
      go : (t : Bool) → pick t (0 / 2) 0 ≡ 0
      go true = refl
      go false = refl

  pub moved-suc : (k : Code) (c : ℕ) → moved_at g k (suc c) ≡ pick (moves_at g k c) (suc (moved_at g k c)) (moved_at g k c)
  moved-suc k c = go (is_wide k) (dec_lt c (HACT g)) (dec_lt (suc c) (HACT g))
    where
      H : ℕ
      H = HACT g

      moved : Bool → ℕ → ℕ
      moved w c = pick (ltb c H) (pick w (c / 2) c) (pick w ((H + 1) / 2) H)

      moves : Bool → Bool
      moves w = ltb c H && (not w || (eqb (c % 2) 1 || eqb (c + 1) H))

      odd : Dec (c % 2 ≡ 1) → suc c < H → (suc c / 2) ≡ pick (eqb (c % 2) 1 || eqb (c + 1) H) (suc (c / 2)) (c / 2)
      odd (yes o) l = rw (eq-eqb (c % 2) 1 o) (omega (arith, o))
      odd (no f) l = rw (ne_eqb (c % 2) 1 f, ne_eqb (c + 1) H (λ e. omega (arith, e, l))) (omega (arith, f))

      last : Dec (c % 2 ≡ 1) → c < H → H ≤ suc c → ((H + 1) / 2) ≡ pick (eqb (c % 2) 1 || eqb (c + 1) H) (suc (c / 2)) (c / 2)
      last (yes o) l m = rw (eq-eqb (c % 2) 1 o) (omega (arith, o, l, m))
      last (no f) l m = rw (ne_eqb (c % 2) 1 f, eq-eqb (c + 1) H (omega (arith, l, m))) (omega (arith, f, l, m))

      go : (w : Bool) → Dec (c < H) → Dec (suc c < H) → moved w (suc c) ≡ pick (moves w) (suc (moved w c)) (moved w c)
      go true (yes l) (yes m) = rw (lt-ltb c H l, lt-ltb (suc c) H m) (odd (ℕ_discrete (c % 2) 1) m)
      go true (yes l) (no f) = rw (lt-ltb c H l, le-ltb (suc c) H (omega (arith, f))) (last (ℕ_discrete (c % 2) 1) l (omega (arith, f)))
      go true (no f) d₂ = rw (le-ltb c H (omega (arith, f)), le-ltb (suc c) H (omega (arith, f)))
      go false (yes l) (yes m) = rw (lt-ltb c H l, lt-ltb (suc c) H m)
      go false (yes l) (no f) = rw (lt-ltb c H l, le-ltb (suc c) H (omega (arith, f))) (omega (arith, l, f))
      go false (no f) d₂ = rw (le-ltb c H (omega (arith, f)), le-ltb (suc c) H (omega (arith, f)))

  -- past the active clocks the row's cells are fetched
  pub moved_all : (k : Code) (c : ℕ) → HACT g ≤ c → moved_at g k c ≡ fetched_in g k
  moved_all k c h = rw (le-ltb c (HACT g) h)
