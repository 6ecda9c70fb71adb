-- Rests on the loop that stores one number a turn (lists Tab).
use mathlib.Core.Path.{refl}
use native.Mathlib.Omega.{arith}
use Rattle.lists.specs.Tab.{tab, tab-turn}
use Rattle.dots.specs.Stores.{ink_of}
use Rattle.dots.proofs.inks.Goals as goal

pub loop-i-init : goal.loop-i-init
unfolding tab
loop-i-init c = refl

pub loop-i-preserved : goal.loop-i-preserved
loop-i-preserved c = tab-turn ink_of c.args.table.now _ _ c.loop-i.invariant _ (omega arith) c.ink.ensures
