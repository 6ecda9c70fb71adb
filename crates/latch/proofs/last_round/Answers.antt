-- Rests on the invariant: the cells passed, from the last one back, set nothing.
use Prim.Native.Nat.{ℕ, ◌-◌, ◌≤◌, ◌<◌}
use mathlib.Core.Path.{◌≡◌, ap}
use native.Mathlib.Omega.{arith}
use lib.ListN.{get_or}
use Rattle.raster.specs.declared.Cell.{Cell}
use Rattle.raster.specs.Moves.{advance_by-lt}
use Rattle.raster.specs.Latch.{last_set, search-over, search-on, search-none}
use Rattle.latch.specs.Laws.{row_byte}
use Rattle.latch.proofs.last_round.Goals as goal
use Rattle.latch.proofs.last_round.Goals.{After-advance_by-cell}

-- a turn of the loop looks at the byte of the cell before
module _ (c : After-advance_by-cell) where
  abbrev bytes : ℕ → ℕ
  bytes = row_byte c.args.attrs.now c.args.buffer c.args.start.address

  abbrev byte : ℕ
  byte = get_or c.args.attrs.now c.advance_by-cell.result.address 0

  looked : byte ≡ bytes (c.loop-before.before - 1)
  looked = ap (λ (x : Cell). get_or c.args.attrs.now x.address 0) c.advance_by-cell.ensures

  over : 128 ≤ byte → byte ≡ last_set bytes 0 c.args.n
  over = search-over bytes 0 c.args.n c.loop-before.before byte c.loop-before.invariant c.loop-before-test.true looked

  on : byte < 128 → last_set bytes 0 (c.loop-before.before - 1) ≡ last_set bytes 0 c.args.n
  on = search-on bytes 0 c.args.n c.loop-before.before byte c.loop-before.invariant c.loop-before-test.true looked

pub bounds-attrs-cell : goal.bounds-attrs-cell
bounds-attrs-cell c =
    rw (c.advance_by-cell.ensures, c.requires) (advance_by-lt _ _ _)

pub returns-then-byte-ge128 : goal.returns-then-byte-ge128
returns-then-byte-ge128 c = over (goal.at.returns-then-byte-ge128 c).After-advance_by-cell c.if-byte-ge128.true

pub loop-before-preserved : goal.loop-before-preserved
loop-before-preserved c = on (goal.at.loop-before-preserved c).After-advance_by-cell (omega (arith, c.if-byte-ge128.false))

pub returns : goal.returns
returns c = search-none _ 0 _ _ c.loop-before.invariant (omega (arith, c.loop-before-test.false))
