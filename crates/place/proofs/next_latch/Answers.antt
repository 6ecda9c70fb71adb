use Rattle.std.proofs.Common.{refl, ◌∙◌}
use Rattle.lists.specs.Choice.{stop, pass}
use Rattle.place.proofs.next_latch.Goals as goal

pub returns-then-again : goal.returns-then-again
returns-then-again c = stop _ c.if-again.true refl

pub returns : goal.returns
returns c = pass _ c.if-again.false (c.latched.ensures ∙ rw c.set_by.ensures)
