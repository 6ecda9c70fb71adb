-- Rests on what the calls ensure.
use Rattle.std.proofs.Common.{◌∙◌}
use Rattle.step.proofs.scan_in.Goals as goal

pub returns : goal.returns
returns c = c.scan_at.ensures ∙ rw c.from.ensures
