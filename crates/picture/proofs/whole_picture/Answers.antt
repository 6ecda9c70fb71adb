-- Rests on plan-small; both ways to draw meet the contract.
use native.Mathlib.Omega.{arith}
use Rattle.picture.specs.Agree.{plan-small}
use Rattle.picture.proofs.whole_picture.Goals as goal

pub times-requires : goal.times-requires
times-requires c = omega (arith, plan-small _ _ c.plan_of-p.ensures c.requires.0.page)
