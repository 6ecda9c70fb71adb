-- Rests on begun-by: of a row of double width half the columns have begun a cell, rounded up.
use mathlib.Core.Path.{sym, ◌∙◌}
use Rattle.units.specs.Order.{is-least}
use Rattle.timing.specs.Fields.{timing_of, counts_of}
use Rattle.fetch.specs.Laws.{wide_is, begun-by}
use Rattle.fetch.proofs.fetched_before.Goals as goal

pub returns-then-is_wide : goal.returns-then-is_wide
unfolding timing_of counts_of
returns-then-is_wide c =
    rw (c.pairs_begun.ensures, c.min-n.ensures, is-least, c.timing_of-t.ensures)
    (begun-by _ _ _ _ (sym c.if-is_wide.true ∙ wide_is _ _ _ c.is_wide.ensures c.from-code.ensures c.code_at.ensures))

pub returns : goal.returns
unfolding timing_of counts_of
returns c =
    rw (c.cells.ensures, c.min-n.ensures, is-least, c.timing_of-t.ensures)
    (begun-by _ _ _ _ (sym c.if-is_wide.false ∙ wide_is _ _ _ c.is_wide.ensures c.from-code.ensures c.code_at.ensures))
