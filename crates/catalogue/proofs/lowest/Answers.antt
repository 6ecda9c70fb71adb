-- Rests on the invariant: a is the lowest place that is left, and the cells from there to x have no mark.
use Rattle.std.proofs.Common.{◌+◌, ◌<◌, arith}
use Rattle.catalogue.specs.Marks.{search-begins, search-turn, search-found, search-none}
use Rattle.catalogue.proofs.lowest.Goals as goal

pub loop-x-init : goal.loop-x-init
loop-x-init c = search-begins _ _

pub returns-then-x-a : goal.returns-then-x-a
returns-then-x-a c = search-found _ _ _ _ c.loop-x.invariant (omega arith)

pub loop-x-preserved : goal.loop-x-preserved
loop-x-preserved c =
    let inside : (c.loop-x.x < 16384) × (c.loop-x.x < c.loop-x.a + c.args.n) = (omega arith, omega (arith, c.loop-x.invariant.near)) in
    rw c.begins_after-a.ensures (search-turn _ _ _ _ c.loop-x.invariant inside.0 inside.1)

pub returns-then-end-le16384 : goal.returns-then-end-le16384
returns-then-end-le16384 c = search-found _ _ _ _ c.loop-x.invariant (omega arith)

pub returns : goal.returns
returns c = search-none _ _ _ _ c.loop-x.invariant (omega arith) (omega arith)
