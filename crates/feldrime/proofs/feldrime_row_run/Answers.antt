-- Rests on the bounds of the span, for the casts; 3 for the numbers, else the span.
use mathlib.Core.Path.{refl, sym, ◌∙◌}
use Rattle.lists.specs.Choice.{stop, pass}
use Rattle.numbers.specs.Laws.{numbers-room}
use Rattle.feldrime.specs.Pages.{run_for}
use Rattle.feldrime.proofs.feldrime_row_run.Goals as goal

pub returns-then-numbers_refused : goal.returns-then-numbers_refused
unfolding run_for
returns-then-numbers_refused c = stop _ (sym c.numbers_refused.ensures ∙ c.if-numbers_refused.true) refl

pub board_at-requires : goal.board_at-requires
board_at-requires c = numbers-room c.args.numbers.now (sym c.numbers_refused.ensures ∙ c.if-numbers_refused.false)

pub returns-in-Ok : goal.returns-in-Ok
unfolding run_for
returns-in-Ok c =
    let span = rw c.board_at.ensures at c.in-Ok.ensures.0 in
    pass _ (sym c.numbers_refused.ensures ∙ c.if-numbers_refused.false) (rw (← span) refl)

pub returns-in-Err : goal.returns-in-Err
unfolding run_for
returns-in-Err c =
    let span = rw c.board_at.ensures at c.in-Err.ensures.0 in
    pass _ (sym c.numbers_refused.ensures ∙ c.if-numbers_refused.false) (rw (← span, c.number.ensures, c.beside.ensures) refl)
