use native.Mathlib.Omega.{arith}
use Rattle.timing.specs.Laws.{hbp-le}
use Rattle.timing.proofs.missing.Goals as goal

pub plus-requires : goal.plus-requires
plus-requires c = rw c.rest_of.ensures (omega (arith, hbp-le c.args.p))
