-- Rests on numbers-room: numbers that are not refused have a page at their front.
use mathlib.Core.Path.{refl, sym, ◌∙◌}
use Rattle.lists.specs.Choice.{stop, pass}
use Rattle.numbers.specs.Laws.{numbers-room}
use Rattle.feldrime.specs.Pages.{size_for}
use Rattle.feldrime.proofs.feldrime_page_size.Goals as goal

pub returns-then-numbers_refused : goal.returns-then-numbers_refused
unfolding size_for
returns-then-numbers_refused c = stop _ (sym c.numbers_refused.ensures ∙ c.if-numbers_refused.true) refl

pub page_at-requires : goal.page_at-requires
page_at-requires c = numbers-room c.args.numbers.now (sym c.numbers_refused.ensures ∙ c.if-numbers_refused.false)

pub returns-in-Ok : goal.returns-in-Ok
unfolding size_for
returns-in-Ok c =
    let size = rw c.page_at.ensures at c.in-Ok.ensures in
    pass _ (sym c.numbers_refused.ensures ∙ c.if-numbers_refused.false) (rw (← size) refl)

pub returns-in-Err : goal.returns-in-Err
unfolding size_for
returns-in-Err c =
    let size = rw c.page_at.ensures at c.in-Err.ensures in
    pass _ (sym c.numbers_refused.ensures ∙ c.if-numbers_refused.false) (rw (← size, c.number.ensures, c.beside.ensures) refl)
