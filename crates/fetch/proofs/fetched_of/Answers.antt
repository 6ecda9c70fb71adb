-- Rests on fetched-by: a row of double width fetches half of HACT, rounded up.
use mathlib.Core.Path.{sym, ◌∙◌}
use Rattle.timing.specs.Fields.{timing_of, counts_of}
use Rattle.fetch.specs.Laws.{wide_is, fetched-by}
use Rattle.fetch.proofs.fetched_of.Goals as goal

pub returns-then-is_wide : goal.returns-then-is_wide
unfolding timing_of counts_of
returns-then-is_wide c =
    rw (c.pairs_begun.ensures, c.timing_of-t.ensures)
    (fetched-by _ _ _ (sym c.if-is_wide.true ∙ wide_is _ _ _ c.is_wide.ensures c.from-code.ensures c.code_at.ensures))

pub returns : goal.returns
unfolding timing_of counts_of
returns c =
    rw (c.cells.ensures, c.timing_of-t.ensures)
    (fetched-by _ _ _ (sym c.if-is_wide.false ∙ wide_is _ _ _ c.is_wide.ensures c.from-code.ensures c.code_at.ensures))
