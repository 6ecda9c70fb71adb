use mathlib.Core.Path.{refl, sym, ◌∙◌}
use Rattle.lists.specs.Choice.{stop, pass}
use Rattle.numbers.specs.Numbers.{numbers_check}
use Rattle.numbers.specs.Laws.{numbers-room}
use Rattle.numbers.proofs.numbers_check.Goals as goal

pub returns-then-numbers_refused : goal.returns-then-numbers_refused
unfolding numbers_check
returns-then-numbers_refused c = stop _ (sym c.numbers_refused.ensures ∙ c.if-numbers_refused.true) refl

pub page_at-requires : goal.page_at-requires
page_at-requires c = numbers-room c.args.numbers.now (sym c.numbers_refused.ensures ∙ c.if-numbers_refused.false)

pub returns : goal.returns
unfolding numbers_check
returns c =
    pass _ (sym c.numbers_refused.ensures ∙ c.if-numbers_refused.false) (c.page_check.ensures ∙ rw c.page_at.ensures)
