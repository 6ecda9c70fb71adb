-- Rests on start-table and start-sheet, one for each state of the row table.
use mathlib.Core.Path.{sym, ap, ◌∙◌}
use native.Mathlib.Omega.{arith}
use Rattle.raster.specs.Moves.{cell}
use Rattle.timing.specs.Fields.{timing_of, counts_of}
use Rattle.fetch.specs.Laws.{moves-fit, start-table, start-sheet}
use Rattle.fetch.proofs.row_start.Goals as goal

pub returns-then-table_of : goal.returns-then-table_of
returns-then-table_of c = c.entry.ensures ∙ ap cell (start-table _ _ _ (sym c.table_of.ensures ∙ c.if-table_of.true))

pub times-before-requires : goal.times-before-requires
unfolding timing_of counts_of
times-before-requires c =
    rw c.timing_of-t.ensures (omega (arith, moves-fit c.args.p c.args.row c.requires.1))

pub returns : goal.returns
unfolding timing_of counts_of
returns c =
    c.advance_by.ensures
    ∙ rw (c.cells.ensures, c.buffer_of.ensures, c.times-before.ensures, c.timing_of-t.ensures)
    (ap cell (start-sheet _ _ _ (sym c.table_of.ensures ∙ c.if-table_of.false)))
