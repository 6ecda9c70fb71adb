-- Rests on the ranges of the index: masks, surrounds, changes.
use mathlib.Core.Path.{refl, ap}
use Prim.Native.Nat.{ℕ, ◌*◌}
use native.Mathlib.Omega.{arith}
use borrow.Author.Tests.{lt-ltb, le-ltb}
use Rattle.lists.specs.Choice.{stop, pass}
use Rattle.dots.specs.Stores.{ink_of}
use Rattle.dots.specs.Bytes.{spread-ones}
use Rattle.dots.proofs.ink.Goals as goal

pub overflow_mul-result : goal.overflow_mul-result
overflow_mul-result c = omega (arith, c.spread.ensures, spread-ones c.args.i)

pub returns-then-i-lt256 : goal.returns-then-i-lt256
unfolding ink_of
returns-then-i-lt256 c = stop _ (lt-ltb _ _ c.if-i-lt256.true) (ap (λ (k : ℕ). 255 * k) c.spread.ensures)

pub returns-then-i-lt272 : goal.returns-then-i-lt272
unfolding ink_of
returns-then-i-lt272 c = pass _ (le-ltb _ _ c.if-i-lt256.false) (stop _ (lt-ltb _ _ c.if-i-lt272.true) refl)

pub returns : goal.returns
unfolding ink_of
returns c =
    pass _ (le-ltb _ _ c.if-i-lt256.false)
    (pass _ (le-ltb _ _ c.if-i-lt272.false) (ap (λ (k : ℕ). 72340172838076673 * k) c.change.ensures.0))
