-- Rests on column-wide and column-not-wide, by the code of the row.
use Prim.Native.Nat.{ℕ, ◌≤◌}
use mathlib.Core.Path.{◌≡◌}
use mathlib.Core.Bool.{Bool, true, false}
use native.Mathlib.Omega.{arith}
use Rattle.lists.specs.Choice.{pick}
use Rattle.step.specs.Signals.{odd_in}
use Rattle.step.specs.Laws.{column-wide, column-not-wide}
use Rattle.std.proofs.Common.{rules}
use Rattle.step.proofs.column_dots.Goals.{then-is_odd, else-is_odd}
use Rattle.step.proofs.column_dots.Goals as goal

half_le : (t : Bool) (d n : ℕ) → n ≡ pick t d 0 → n ≤ d
half_le true d n e = omega (arith, e)
half_le false d n e = omega (arith, e)

pub returns-then-wide : goal.returns-then-wide
returns-then-wide c =
    let d = c.requires.1 in
    rw c.if-wide.true
    (column-wide (odd_in c.args.b) c.args.s.look c.args.s.word _ c.requires.2 d _ c.draw_cell.ensures _
    (elim c.if-is_odd.branch [ then-is_odd w ↦ search rules | else-is_odd w ↦ search rules ]))

pub returns : goal.returns
returns c =
    rw c.if-wide.false (column-not-wide _ c.args.s.look c.args.s.word _ c.requires.1 _ c.draw_cell.ensures)
