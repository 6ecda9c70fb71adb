-- Rests on count_small, for the cast; 3 for the numbers, else what row_cells answers.
use Rattle.std.proofs.Common.{length, arith}
use mathlib.Core.Path.{refl, sym, ◌∙◌}
use Rattle.lists.specs.Choice.{stop, pass}
use Rattle.fetch.specs.RowLaws.{count_small}
use Rattle.numbers.specs.Laws.{numbers-room}
use Rattle.feldrime.specs.RowCells.{cells_for, cells_put_for}
use Rattle.feldrime.proofs.feldrime_row_cells.Goals as goal

pub returns-then-numbers_refused : goal.returns-then-numbers_refused
unfolding cells_for cells_put_for
returns-then-numbers_refused c = let t = sym c.numbers_refused.ensures ∙ c.if-numbers_refused.true in (stop _ t refl, stop _ t refl)

pub board_at-requires : goal.board_at-requires
board_at-requires c = numbers-room c.args.numbers.now (sym c.numbers_refused.ensures ∙ c.if-numbers_refused.false)

pub overflow_cast-result : goal.overflow_cast-result
overflow_cast-result c =
    let small = rw (← c.in-Ok.ensures.0) at (count_small c.board_at.result c.args.chars.now c.args.row (length c.args.cells.now)) in
    record { fits = omega (arith, small) }

pub returns-in-Ok : goal.returns-in-Ok
unfolding cells_for cells_put_for
returns-in-Ok c =
    let t = sym c.numbers_refused.ensures ∙ c.if-numbers_refused.false in
    let given = rw c.board_at.ensures at c.in-Ok.ensures in
    (pass _ t (rw (← given.0) refl), pass _ t given.1)

pub returns-in-Err : goal.returns-in-Err
unfolding cells_for cells_put_for
returns-in-Err c =
    let t = sym c.numbers_refused.ensures ∙ c.if-numbers_refused.false in
    let given = rw c.board_at.ensures at c.in-Err.ensures in
    (pass _ t (rw (← given.0, c.number.ensures, c.beside.ensures) refl), pass _ t given.1)
