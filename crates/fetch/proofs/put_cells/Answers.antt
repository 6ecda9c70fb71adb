-- Rests on the invariant: the addresses put so far, and the cell that comes next.
use Rattle.std.proofs.Common.{ℕ, ◌≡◌, List, ◌++◌, length, take, drop, refl, ap, ◌∙◌, arith, length-take-le}
use Rattle.lists.specs.Tab.{tab, tab-turn, tab-ends}
use Rattle.raster.specs.declared.Cell.{Cell}
use Rattle.raster.specs.Walk.{moved_on, not-moved}
use Rattle.fetch.specs.RowLaws.{column_by}
use Rattle.fetch.proofs.put_cells.Goals as goal

pub loop-place-init : goal.loop-place-init
unfolding tab
loop-place-init c = (not-moved _ _ c.requires.1, refl)

pub loop-place-preserved : goal.loop-place-preserved
unfolding column_by
loop-place-preserved c =
    let inv = c.loop-place.invariant in (
      moved_on _ _ _ _ inv.0 c.requires.0 c.requires.1 _ c.advance_one-cell.ensures,
      tab-turn (column_by c.args.buffer c.args.start.address) _ _ _ inv.1 _
          c.loop-place-test.true (ap (λ (x : Cell). x.address) inv.0),
    )

pub returns : goal.returns
returns c =
    let long : length (take c.args.n c.args.cells.now) ≡ c.args.n = length-take-le _ _ c.requires.2 in
    ap (λ (d : List ℕ). d ++ drop c.args.n c.args.cells.now)
    (tab-ends _ _ _ _ c.loop-place.invariant.1 (omega arith) ∙ ap (λ (n : ℕ). tab n (column_by c.args.buffer c.args.start.address)) long)
