-- Rests on the invariant: after i turns 2 i dots stand at the front.
use mathlib.Core.Path.{refl}
use native.Mathlib.Omega.{arith}
use Rattle.std.proofs.Common.{◌≡◌, length, take, get_or-take, length-take-le}
use Rattle.lists.specs.Tab.{tab}
use Rattle.dots.specs.Half.{pair_put}
use Rattle.dots.proofs.pairs.Goals as goal

pub loop-i-init : goal.loop-i-init
unfolding tab
loop-i-init c = refl

pub loop-i-preserved : goal.loop-i-preserved
loop-i-preserved c =
    let long : length (take c.args.n c.args.dots.now) ≡ c.args.n = length-take-le c.args.n c.args.dots.now c.requires.1 in
    rw (get_or-take c.args.n c.args.dots.now c.loop-i.i 0 (omega arith)) (pair_put _ _ _ _ c.loop-i.invariant (omega arith))
