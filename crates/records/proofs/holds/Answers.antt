use mathlib.Core.Path.{refl}
use Rattle.records.specs.Ends.{holds_ends}
use Rattle.records.proofs.holds.Goals as goal

pub returns : goal.returns
unfolding holds_ends
returns c = refl
