-- Rests on the loop that stores one element a turn (lists Tab).
use Prim.Native.Nat.{ℕ}
use mathlib.Core.Path.{refl, ap}
use mathlib.Core.List.{List, ◌++◌}
use native.Mathlib.Omega.{arith}
use lib.ListN.{take, drop}
use Rattle.lists.specs.Tab.{tab, tab-turn}
use Rattle.tables.specs.Tables.{levels_for}
use Rattle.tables.specs.Laws.{tab-front}
use Rattle.tables.proofs.half.Goals as goal

pub loop-attributes-init : goal.loop-attributes-init
unfolding tab
loop-attributes-init c = refl

pub loop-attributes-preserved : goal.loop-attributes-preserved
loop-attributes-preserved c =
    tab-turn (levels_for c.args.s c.args.here) (take 64 c.args.table.now) _ _ c.loop-attributes.invariant _ (omega arith) c.levels.ensures

pub returns : goal.returns
returns c =
    ap (λ (l : List ℕ). l ++ drop 64 c.args.table.now)
    (tab-front (levels_for c.args.s c.args.here) 64 c.args.table.now _ _ c.loop-attributes.invariant c.requires.0 c.loop-attributes-test.false c.loop-attributes.auto.attributes-end)
