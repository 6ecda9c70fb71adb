use Rattle.place.specs.Laws.{row-at}
use Rattle.place.proofs.row_at.Goals as goal

pub returns : goal.returns
returns c =
    row-at _ _ _ _ _ _ _ _ _ c.cell_at-at.ensures c.row_start-start.ensures c.held_at.ensures
    c.held_before-before.ensures _ c.code_at-code.ensures
