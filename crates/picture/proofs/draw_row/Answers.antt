-- Rests on as_row and held_after: the gathered cells make the row, and what is valid after it.
use Prim.Native.Nat.{ℕ, ◌<◌}
use native.Mathlib.Omega.{arith}
use borrow.Author.Rules.{rules}
use lib.ListN.{get_or}
use Rattle.picture.specs.Plan.{as_row, held_after}
use Rattle.picture.proofs.draw_row.Goals as goal

pub draw_lines-requires : goal.draw_lines-requires
draw_lines-requires c =
    let bytes : (i : ℕ) → get_or c.args.chars.now i 0 < 256 = λ i. omega (arith, c.type_inv.chars i) in
    let pre = c.requires in
    record { cells_all = search rules; width_in_bounds = pre.n_value.2 }

pub returns : goal.returns
returns c =
    let a = c.args in
    let n = c.requires.n_value.0 in (
      held_after a.t.plan a.k a.chars.now a.attrs.now a.held a.start.address n _ c.gather-valid.ensures.0,
      as_row a.t.plan a.k a.chars.now a.attrs.now a.held a.start.address n _ _ _ _ _ _ c.gather-valid.ensures.1 c.draw_lines.ensures,
    )
