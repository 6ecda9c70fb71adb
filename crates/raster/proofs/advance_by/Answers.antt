-- Rests on the two laws of many moves: by_near while the last address is not passed, by-far once it is.
use mathlib.Core.Path.{◌≡◌, sym, ap, ◌∙◌}
use Prim.Native.Nat.{ℕ, ◌+◌, ◌%◌, ◌^◌, ◌<◌}
use native.Mathlib.Nat.{mod-lt}
use native.Mathlib.Omega.{arith}
use borrow.Author.Rules.{rules}
use mir.Syntax.{w32}
use mir.Val.{Fits}
use Rattle.raster.specs.Moves.{cell, to_last, around, by_near, by-far}
use Rattle.raster.proofs.advance_by.Goals as goal

wrapped : (a k : ℕ) → (a % 16384 + k) % 16384 ≡ (a + k) % 16384
wrapped a k = omega arith

-- what is left of the way round the buffer is small
sum_fits : (first x y : ℕ) → first < 2 ^ 16 → Fits w32 (first + x % (y % 16384 + 1))
sum_fits first x y h =
    let p : 0 < y % 16384 + 1 = omega arith in
    omega (arith, mod-lt x p)

pub returns-then-k-d : goal.returns-then-k-d
unfolding to_last
returns-then-k-d c = ap cell (wrapped _ _ ∙ sym (by_near _ _ _ c.if-k-d.true))

pub returns : goal.returns
unfolding to_last around
returns c = ap cell (sym (by-far _ _ _ (search rules)))
