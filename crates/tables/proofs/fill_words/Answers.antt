-- Rests on the loop that lends each turn its own stretch (lists Join), one scan line a turn.
use Prim.Native.Nat.{◌≤◌, ◌*◌}
use native.Mathlib.Omega.{arith}
use lib.ListN.{length}
use Rattle.lists.specs.Join.{join-turn, join-ends}
use Rattle.tables.specs.Tables.{words_at}
use Rattle.tables.specs.Laws.{length-words}
use Rattle.tables.proofs.fill_words.Goals as goal

pub loop-s-preserved : goal.loop-s-preserved
unfolding words_at
loop-s-preserved c =
    let few : (c.places-s-end.result ≤ 16) × (c.places-s-end.result * 512 ≤ length c.args.table.now) =
    let same = c.places-s-end.ensures in
    (omega (arith, same, c.requires.2), omega (arith, same, c.requires.3)) in (
      omega (arith, c.loop-s-test.true),
      join-turn _ _ (length-words _ _ _ _) _ _ _ c.loop-s.invariant.1 c.loop-s-test.true few.1 (rw c.font_line_at-line.ensures at c.shown_words.ensures),
    )

pub returns : goal.returns
returns c = rw c.places-s-end.ensures at (join-ends _ _ (length-words _ _ _ _) _ _ c.loop-s.invariant.1 (omega arith) (omega arith))
