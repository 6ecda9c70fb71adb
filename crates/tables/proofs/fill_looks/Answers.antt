-- Rests on the loop that lends each turn its own stretch (lists Join), one scan line a turn.
use Prim.Native.Nat.{◌≤◌, ◌*◌}
use native.Mathlib.Omega.{arith}
use lib.ListN.{length, length-take, length-drop}
use Rattle.lists.specs.Join.{join-turn, join-ends}
use Rattle.tables.specs.Tables.{levels_at}
use Rattle.tables.specs.Marks.{blank-lt}
use Rattle.tables.specs.Laws.{length-levels}
use Rattle.tables.proofs.fill_looks.Goals as goal

pub looks-requires : goal.looks-requires
looks-requires c =
    let few : (c.places-s-end.result ≤ 16) × (c.places-s-end.result * 128 ≤ length c.args.table.now) =
    let same = c.places-s-end.ensures in
    (omega (arith, same, c.requires.0), omega (arith, same, c.requires.1)) in
    (simp (length-take, length-drop) (omega (arith, c.loop-s.invariant.1.same, few, c.loop-s-test.true)), rw c.scene_of-scene.ensures (blank-lt _ _ _))

pub loop-s-preserved : goal.loop-s-preserved
unfolding levels_at
loop-s-preserved c =
    let few : (c.places-s-end.result ≤ 16) × (c.places-s-end.result * 128 ≤ length c.args.table.now) =
    let same = c.places-s-end.ensures in
    (omega (arith, same, c.requires.0), omega (arith, same, c.requires.1)) in (
      omega (arith, c.loop-s-test.true),
      join-turn _ _ (length-levels _ _) _ _ _ c.loop-s.invariant.1 c.loop-s-test.true few.1 (rw c.scene_of-scene.ensures at c.looks.ensures),
    )

pub returns : goal.returns
returns c = rw c.places-s-end.ensures at (join-ends _ _ (length-levels _ _) _ _ c.loop-s.invariant.1 (omega arith) (omega arith))
