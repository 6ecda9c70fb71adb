-- Rests on not-clear and clear-but, by whether all but the groups is fine.
use Rattle.std.specs.Prelude.{is_ok}
use mathlib.Core.Path.{ap, ◌∙◌}
use Rattle.step.specs.Laws.{not-clear, clear-but}
use Rattle.step.proofs.clear.Goals as goal

pub returns-then-size-is_ok : goal.returns-then-size-is_ok
returns-then-size-is_ok c = not-clear c.args.b c.args.size c.args.groups.now (rw (c.state_refused.ensures, c.is_ok.ensures.value, c.page_check.ensures) at c.if-size-is_ok.true)

pub returns : goal.returns
returns c =
    c.is_ok-2.ensures.value ∙ ap is_ok c.groups_check.ensures
    ∙ clear-but c.args.b c.args.size c.args.groups.now (rw (c.state_refused.ensures, c.is_ok.ensures.value, c.page_check.ensures) at c.if-size-is_ok.false)
