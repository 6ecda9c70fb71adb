use mathlib.Core.Path.{◌∙◌}
use Rattle.catalogue.specs.ToTable.{own_check}
use Rattle.catalogue.proofs.own_check.Goals as goal

pub returns : goal.returns
unfolding own_check
returns c = c.call_check.ensures ∙ rw c.wrong_size.ensures
