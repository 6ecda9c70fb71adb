use Rattle.timing.specs.Laws.{visible-bound}
use native.Mathlib.Omega.{arith}
use Rattle.timing.proofs.visible_of.Goals as goal

pub times-requires : goal.times-requires
times-requires c = rw (c.rows_of.ensures, c.lines_of.ensures) (omega (arith, visible-bound c.args.p))
