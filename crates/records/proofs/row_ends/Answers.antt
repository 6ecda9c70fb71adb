-- Rests on the invariant: the lowest and the highest cell so far, and the one that comes next.
use Rattle.std.proofs.Common.{◌≡◌, sym, ap, ◌∙◌, arith}
use Rattle.raster.specs.declared.Cell.{Cell}
use Rattle.raster.specs.Moves.{advance_by-zero}
use Rattle.raster.specs.Walk.{moved_on, not-moved}
use Rattle.records.specs.Ends.{low_to, high_to, ends_of, ends_by, low-more, high-more}
use Rattle.records.proofs.row_ends.Goals as goal

pub loop-init : goal.loop-init
unfolding low_to high_to
loop-init c = (not-moved _ _ c.requires.1, sym (advance_by-zero _ _ c.requires.1), sym (advance_by-zero _ _ c.requires.1))

pub loop-preserved : goal.loop-preserved
loop-preserved c =
    let inv = c.loop.invariant in
    let at = ap (λ (x : Cell). x.address) inv.0 in (
      moved_on _ _ _ _ inv.0 c.requires.0 c.requires.1 _ c.advance_one-cell.ensures,
      low-more _ _ _ at inv.1 c.min-low.ensures,
      high-more _ _ _ at inv.2 c.max-high.ensures,
    )

pub returns : goal.returns
unfolding ends_by
returns c =
    let loop = c.loop in
    let all : loop.counter ≡ c.args.n = omega arith in
    (λ k. ends_of (loop.invariant.1 k) (loop.invariant.2 k)) ∙ ap (ends_by c.args.buffer c.args.start.address) all
