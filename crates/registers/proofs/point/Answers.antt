-- Rests on the test: where a wrong program alters it, this fails at what it says.
use Rattle.std.proofs.Common.{sym, ap, ◌∙◌}
use Rattle.std.specs.Prelude.{Ok}
use Rattle.lists.specs.Choice.{pass}
use Rattle.registers.proofs.point.Goals as goal

pub returns : goal.returns
returns c = pass _ (sym c.pointer_refused.ensures ∙ c.if-pointer_refused.false) (ap Ok c.pointed.ensures)
