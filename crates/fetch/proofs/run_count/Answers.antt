use Rattle.std.proofs.Common.{arith}
use Rattle.raster.specs.Moves.{to_last}
use Rattle.fetch.specs.Run.{run_count}
use Rattle.fetch.proofs.run_count.Goals as goal

pub returns : goal.returns
unfolding run_count to_last
returns c = rw (c.min-2.ensures, c.min.ensures, c.buffer_of-b.ensures) (omega arith)
