use mathlib.Core.Path.{refl}
use Rattle.records.specs.Records.{disagrees}
use Rattle.records.proofs.disagree.Goals as goal

pub returns : goal.returns
unfolding disagrees
returns c = refl
