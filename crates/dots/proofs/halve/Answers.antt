-- Rests on the loop that stores one dot a turn (lists Tab).
use mathlib.Core.Path.{refl}
use native.Mathlib.Omega.{arith}
use lib.ListN.{take}
use Rattle.lists.specs.Tab.{tab, tab-turn}
use Rattle.dots.specs.Half.{half_by}
use Rattle.dots.proofs.halve.Goals as goal

pub loop-i-init : goal.loop-i-init
unfolding tab
loop-i-init c = refl

pub loop-i-preserved : goal.loop-i-preserved
unfolding half_by
loop-i-preserved c = tab-turn (half_by c.args.cell.now c.args.from) (take c.args.d c.args.out.now) _ _ c.loop-i.invariant _ (omega arith) refl
