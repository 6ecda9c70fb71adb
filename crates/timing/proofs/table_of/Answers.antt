use mathlib.Core.Path.{refl}
use Rattle.timing.specs.Fields.{table_of}
use Rattle.timing.proofs.table_of.Goals as goal

pub returns : goal.returns
unfolding table_of
returns c = refl
