-- Rests on the loop that lends each turn its own stretch (lists Join), and on what is valid before each row.
use Prim.Native.Nat.{◌+◌, ◌*◌, ◌≤◌, ◌<◌}
use mathlib.Core.Path.{◌≡◌, sym}
use native.Mathlib.Omega.{arith}
use lib.ListN.{length, length-take, length-drop}
use Rattle.lists.specs.Join.{stretch-inside, join-begins, join-turn, join-ends}
use Rattle.fetch.specs.Laws.{row-start-lt}
use Rattle.latch.specs.Laws.{held_first}
use Rattle.picture.specs.Plan.{length-row, as-row-at, counted, carried_on}
use Rattle.picture.specs.Agree.{plan-rows}
use Rattle.picture.proofs.draw_rows.Goals as goal

pub loop-r-init : goal.loop-r-init
loop-r-init c =
    let sheet = c.args.t.fit in
    (join-begins _ _ (length-row _ _ _ _ _ _ sheet.least sheet.width_is sheet.size_is) _ _, sym (held_first _ _ _))

pub row_start-start-requires : goal.row_start-start-requires
row_start-start-requires c =
    let in-page : (length c.args.chars.now ≡ 16384) × (c.loop-r.r < 8192) = (c.requires.memories.0, omega (arith, plan-rows _ _ c.requires.accepted.1, c.loop-r-test.true)) in
    in-page

pub code_at-requires : goal.code_at-requires
code_at-requires c =
    let in-page : (length c.args.chars.now ≡ 16384) × (c.loop-r.r < 8192) = (c.requires.memories.0, omega (arith, plan-rows _ _ c.requires.accepted.1, c.loop-r-test.true)) in
    in-page

pub fetched_of-n-requires : goal.fetched_of-n-requires
fetched_of-n-requires c =
    let in-page : (length c.args.chars.now ≡ 16384) × (c.loop-r.r < 8192) = (c.requires.memories.0, omega (arith, plan-rows _ _ c.requires.accepted.1, c.loop-r-test.true)) in
    in-page

pub draw_row-held-requires : goal.draw_row-held-requires
draw_row-held-requires c =
    let room : c.loop-r.r * c.args.t.plan.size + c.args.t.plan.size ≤ length c.loop-r.out = omega (arith, c.loop-r.invariant.0.same, stretch-inside c.loop-r.r c.args.t.plan.rows c.args.t.plan.size _ c.loop-r-test.true c.requires.accepted.2) in
    let pre = c.requires in
    let a = c.args in record {
      memories = pre.memories;
      n_value = (
        counted a.t.plan a.page a.chars.now a.attrs.now _ c.code_at.ensures c.from-code.ensures c.loop-r.invariant.1 c.row_start-start.ensures pre.accepted.1 _ c.fetched_of-n.ensures,
        rw c.row_start-start.ensures (row-start-lt _ _ pre.accepted.0 _),
        simp (length-take, length-drop) (omega (arith, room, c.args.t.fit.size_is)),
      );
    }

pub loop-r-preserved : goal.loop-r-preserved
loop-r-preserved c =
    let begun = c.row_start-start.ensures in
    let byte = c.code_at.ensures in
    let code = c.from-code.ensures in
    let held = c.loop-r.invariant.1 in
    let pre = c.requires in
    let sheet = c.args.t.fit in
    let a = c.args in (
      join-turn _ _ (length-row _ _ _ _ _ _ sheet.least sheet.width_is sheet.size_is) _ _ _ c.loop-r.invariant.0 c.loop-r-test.true pre.accepted.2
          (as-row-at a.t.plan a.page a.chars.now a.attrs.now _ byte code held begun a.t.shown.now a.t.looks.now _ _ sheet.size_is c.draw_row-held.ensures.1),
      carried_on a.t.plan a.page a.chars.now a.attrs.now _ byte code held begun pre.accepted.1 _ c.draw_row-held.ensures.0,
    )

pub returns : goal.returns
returns c =
    let sheet = c.args.t.fit in
    join-ends _ _ (length-row _ _ _ _ _ _ sheet.least sheet.width_is sheet.size_is) _ _ c.loop-r.invariant.0 (omega arith) (omega arith)
