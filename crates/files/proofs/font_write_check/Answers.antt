-- Rests on the tests in their order, 3 before 12.
use mathlib.Core.Path.{refl, ap, ◌∙◌}
use Rattle.lists.specs.Choice.{stop, pass}
use Rattle.files.specs.FontFile.{font_size, font_write_check}
use Rattle.files.proofs.font_write_check.Goals as goal

pub returns-then-font_refused-out : goal.returns-then-font_refused-out
unfolding font_write_check
returns-then-font_refused-out c = stop _ (rw (c.font_refused.ensures, c.font_size.ensures ∙ ap font_size c.font_version.ensures) at c.if-font_refused-out.true) refl

pub returns : goal.returns
unfolding font_write_check
returns c = pass _ (rw (c.font_refused.ensures, c.font_size.ensures ∙ ap font_size c.font_version.ensures) at c.if-font_refused-out.false) c.groups_check.ensures
