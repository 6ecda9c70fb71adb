-- Rests on what the calls ensure.
use Rattle.std.proofs.Common.{◌∙◌}
use Rattle.step.proofs.scene_in.Goals as goal

pub returns : goal.returns
returns c = c.scene_of.ensures ∙ rw c.scan_in.ensures
