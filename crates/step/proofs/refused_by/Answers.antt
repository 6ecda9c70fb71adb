-- Rests on the tests in their order: what was lent, the page, the place.
use Rattle.std.specs.Prelude.{is_ok}
use Rattle.std.proofs.Common.{refl, sym, ap, ◌∙◌}
use Rattle.refusal.specs.Laws.{sent-on}
use Rattle.timing.specs.Check.{call_check}
use Rattle.step.specs.Laws.{range-left}
use Rattle.step.proofs.refused_by.Goals as goal

pub returns-in_err-lent_by : goal.returns-in_err-lent_by
unfolding call_check
returns-in_err-lent_by c =
    let refused = c.in_err-lent_by.ensures in
    sent-on c.from_residual.result c.from_residual.ensures.1 ∙ rw (← refused) refl

pub returns-in_err-page_check : goal.returns-in_err-page_check
unfolding call_check
returns-in_err-page_check c =
    let refused = c.in_err-page_check.ensures in
    sent-on c.from_residual-in_err-page_check.result c.from_residual-in_err-page_check.ensures.1
    ∙ rw (← c.in_ok-lent_by.ensures, ← refused) refl

pub returns : goal.returns
returns c = range-left _ _ c.requires (ap is_ok (sym c.in_ok-lent_by.ensures)) (ap is_ok (sym c.in_ok-page_check.ensures))
