-- Rests on put_cell, for the word and the look of the cell.
use Rattle.picture.specs.Plan.{cell_dots_of}
use Rattle.picture.proofs.put.Goals as goal

pub returns : goal.returns
unfolding cell_dots_of
returns c =
    rw (c.places-d.ensures, c.places-s.ensures) at c.put_cell.ensures
