use mathlib.Core.Path.{◌≡◌, sym, ap, ◌∙◌}
use Prim.Native.Nat.{ℕ, ◌+◌, ◌%◌}
use native.Mathlib.Omega.{arith}
use Rattle.raster.specs.Moves.{cell, advance-last, advance-on}
use Rattle.raster.proofs.advance_one.Goals as goal

wrapped : (a : ℕ) → (a % 16384 + 1) % 16384 ≡ (a + 1) % 16384
wrapped a = omega arith

pub returns-then-a-b : goal.returns-then-a-b
returns-then-a-b c = ap cell (sym (advance-last _ _ c.if-a-b.true))

pub returns : goal.returns
returns c = ap cell (wrapped _ ∙ sym (advance-on _ _ c.if-a-b.false))
