use mathlib.Core.Path.{sym, ◌∙◌}
use Rattle.latch.specs.Laws.{held_plain}
use Rattle.latch.proofs.held_before.Goals as goal

pub returns-then-not-field_mode : goal.returns-then-not-field_mode
returns-then-not-field_mode c = sym (held_plain _ _ _ (sym c.field_mode.ensures ∙ c.if-not-field_mode.true) _ _)
