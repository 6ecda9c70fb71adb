-- Rests on begins-on: where the table is off, a row below row 0 carries on.
use Rattle.std.proofs.Common.{rules, ap}
use Rattle.raster.specs.Moves.{cell}
use Rattle.place.specs.Laws.{begins-on}
use Rattle.place.proofs.begun_at.Goals as goal

pub returns : goal.returns
returns c = ap cell (begins-on _ _ _ _ (search rules) (search rules))
