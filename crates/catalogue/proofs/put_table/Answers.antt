-- Rests on the invariant: the entries put so far, and where the next row starts.
use Rattle.std.proofs.Common.{◌≡◌, ℕ, ◌+◌, ◌*◌, ◌/◌, ◌%◌, ◌<◌, length, refl, sym, ap, ◌∙◌, arith}
use native.Mathlib.Nat.{zero-mul}
use Rattle.lists.specs.Tab.{tab}
use Rattle.raster.specs.Moves.{cell, advance_by, advance_by-zero, advance_by-lt}
use Rattle.catalogue.specs.Marks.{entry-put, row_on}
use Rattle.catalogue.proofs.put_table.Goals as goal

pub loop-r-init : goal.loop-r-init
unfolding tab
loop-r-init c = (
  ap cell (sym (ap (λ (k : ℕ). advance_by c.args.buffer k c.args.start.address) (zero-mul c.args.columns) ∙ advance_by-zero _ _ c.requires.4)),
  refl,
)

pub loop-r-preserved : goal.loop-r-preserved
loop-r-preserved c =
    let loop = c.loop-r in
    let room : 2 * loop.r + 1 < length c.args.out.now = omega arith in
    let far : loop.cell.address < 16384 = rw loop.invariant.0 (advance_by-lt c.args.buffer (loop.r * c.args.columns) c.args.start.address) in
    let high : loop.cell.address / 256 % 256 ≡ loop.cell.address / 256 = omega (arith, far) in (
      c.advance_by-cell.ensures ∙ row_on _ c.requires.3 _ _ _ _ c.requires.4 loop.invariant.0,
      rw (c.to_le_bytes.ensures, high) (entry-put _ _ _ _ _ _ loop.invariant.1 room _ loop.invariant.0),
    )
