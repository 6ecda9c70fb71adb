-- Rests on the loop that lends each turn its own stretch (lists Join), one line a turn.
use Prim.Native.Nat.{ℕ, ◌*◌, ◌≤◌}
use mathlib.Core.Path.{ap}
use native.Mathlib.Omega.{arith}
use lib.ListN.{length}
use Rattle.lists.specs.Join.{join-turn, join-ends}
use Rattle.picture.specs.Plan.{length-line, as_line}
use Rattle.picture.proofs.draw_lines.Goals as goal

pub loop-s-preserved : goal.loop-s-preserved
loop-s-preserved c =
    let whole : c.places-s-end.result * c.args.t.plan.width ≤ length c.args.out.now = omega (arith, ap (λ (n : ℕ). n * c.args.t.plan.width) c.places-s-end.ensures, c.requires.width_in_bounds) in
    let pre = c.requires in
    let sheet = c.args.t.fit in
    let a = c.args in
    join-turn _ _ (length-line _ _ _ _ _ sheet.least sheet.width_is) _ _ _ c.loop-s.invariant c.loop-s-test.true whole
    (as_line _ _ a.cells.now a.t.shown.now a.t.looks.now _ _ _ c.scan_of-scan.ensures c.is_wide-wide.ensures c.draw_columns.ensures)

pub returns : goal.returns
returns c =
    let sheet = c.args.t.fit in
    rw c.places-s-end.ensures at
    (join-ends _ _ (length-line _ _ _ _ _ sheet.least sheet.width_is) _ _ c.loop-s.invariant (omega arith) (omega arith))
