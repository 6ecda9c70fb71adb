-- Rests on moved_by: two columns a move if the row is of double width; moved-past beyond the last column.
use mathlib.Core.Path.{sym, ◌∙◌}
use Rattle.units.specs.Order.{if-below}
use Rattle.timing.specs.Fields.{timing_of, counts_of}
use Rattle.fetch.specs.Laws.{wide_is, moved_by, moved-past}
use Rattle.fetch.proofs.moved_of.Goals as goal

pub returns-then-is_wide : goal.returns-then-is_wide
unfolding timing_of counts_of
returns-then-is_wide c =
    c.pairs.ensures
    ∙ moved_by _ _ _ _
    (sym c.if-is_wide.true ∙ wide_is _ _ _ c.is_wide.ensures c.from-code.ensures c.code_at.ensures)
    (if-below _ _ (rw c.timing_of-t.ensures at c.lt.ensures) c.if-lt.true)

pub returns-then-lt : goal.returns-then-lt
unfolding timing_of counts_of
returns-then-lt c =
    c.cells.ensures
    ∙ moved_by _ _ _ _
    (sym c.if-is_wide.false ∙ wide_is _ _ _ c.is_wide.ensures c.from-code.ensures c.code_at.ensures)
    (if-below _ _ (rw c.timing_of-t.ensures at c.lt.ensures) c.if-lt.true)

pub returns : goal.returns
unfolding timing_of counts_of
returns c =
    c.fetched_of.ensures
    ∙ moved-past _ _ _ _ (if-below _ _ (rw c.timing_of-t.ensures at c.lt.ensures) c.if-lt.false)
