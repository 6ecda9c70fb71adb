use mathlib.Core.Path.{ap, ◌∙◌}
use Rattle.raster.specs.Moves.{cell}
use Rattle.fetch.specs.Rows.{fetch_at}
use Rattle.fetch.specs.Laws.{cell-moved}
use Rattle.fetch.proofs.cell_at.Goals as goal

pub returns : goal.returns
unfolding fetch_at
returns c =
    c.advance_by.ensures
    ∙ rw (c.buffer_of.ensures, c.row_start-start.ensures, c.moved_of-moves.ensures) (ap cell (cell-moved _ _ _ _))
