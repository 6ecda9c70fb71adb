-- Rests on check-last and check-first: 7 and 8 stand at the end of the list.
use Rattle.std.specs.Prelude.{is_ok}
use Rattle.std.proofs.Common.{sym, ap, ◌∙◌}
use Rattle.refusal.specs.Laws.{sent-on}
use Rattle.timing.specs.Laws.{call-passed}
use Rattle.line.specs.Line.{draw_check}
use Rattle.line.specs.Walk.{check-last, check-first}
use Rattle.line.proofs.draw_check.Goals as goal

pub line_check-requires : goal.line_check-requires
line_check-requires c = (call-passed _ _ _ _ (sym c.in_ok-call_check.ensures)).page

pub returns-in_err-call_check : goal.returns-in_err-call_check
unfolding draw_check
returns-in_err-call_check c =
    sent-on c.from_residual.result c.from_residual.ensures.1
    ∙ c.in_err-call_check.ensures
    ∙ check-first _ _ _ _ (ap is_ok (sym c.in_err-call_check.ensures))

pub returns : goal.returns
unfolding draw_check
returns c = c.line_check.ensures ∙ check-last _ _ _ _ (sym c.in_ok-call_check.ensures)
