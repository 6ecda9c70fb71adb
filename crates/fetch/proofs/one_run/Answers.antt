use mathlib.Core.Path.{refl}
use Rattle.raster.specs.Moves.{to_last}
use Rattle.fetch.specs.Run.{one_run}
use Rattle.fetch.proofs.one_run.Goals as goal

pub returns : goal.returns
unfolding one_run to_last
returns c = refl
