-- Rests on the order of the tests. Where a wrong program alters it, these fail at the test that was not passed.
use Rattle.std.proofs.Common.{sym, ◌∙◌}
use mathlib.Core.Path.{refl}
use Rattle.lists.specs.Choice.{pass, stop}
use Rattle.timing.specs.Check.{page_check}
use Rattle.timing.proofs.page_check.Goals as goal

pub returns-then-reserved : goal.returns-then-reserved
unfolding page_check
returns-then-reserved c =
    pass _ (sym c.address_refused-address.ensures ∙ c.if-address.false)
    (stop _ (sym c.reserved_refused-reserved.ensures ∙ c.if-reserved.true) refl)

pub returns-then-front : goal.returns-then-front
unfolding page_check
returns-then-front c =
    pass _ (sym c.address_refused-address.ensures ∙ c.if-address.false)
    (pass _ (sym c.reserved_refused-reserved.ensures ∙ c.if-reserved.false)
    (pass _ (sym c.back_porch_refused-back.ensures ∙ c.if-back.false)
    (pass _ (sym c.line_short-short.ensures ∙ c.if-short.false)
    (stop _ (sym c.front_porch_refused-front.ensures ∙ c.if-front.true) (rw c.missing-then-front.ensures)))))
