use mathlib.Core.Path.{refl}
use borrow.Author.Tests.{lt-ltb, le-ltb}
use Rattle.lists.specs.Choice.{stop, pass}
use Rattle.line.specs.Walk.{held_for}
use Rattle.line.proofs.held_for.Goals as goal

pub returns-then-first-lt128 : goal.returns-then-first-lt128
unfolding held_for
returns-then-first-lt128 c = stop _ (lt-ltb _ _ c.if-first-lt128.true) c.held_before.ensures

pub returns : goal.returns
unfolding held_for
returns c = pass _ (le-ltb _ _ c.if-first-lt128.false) refl
