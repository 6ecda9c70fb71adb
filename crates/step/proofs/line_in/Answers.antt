use mathlib.Core.Path.{refl, ◌∙◌}
use Rattle.lists.specs.Choice.{stop, pass}
use Rattle.step.specs.Shown.{line_in}
use Rattle.step.proofs.line_in.Goals as goal

pub returns-then-active : goal.returns-then-active
unfolding line_in
returns-then-active c = stop _ c.if-active.true (c.font_line.ensures ∙ rw c.scan_in.ensures)

pub returns : goal.returns
unfolding line_in
returns c = pass _ c.if-active.false refl
