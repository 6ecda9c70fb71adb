use native.Mathlib.Omega.{arith}
use borrow.Author.Tests.{lt-ltb, le-ltb}
use Rattle.picture.specs.Agree.{plan-size, plan-small}
use Rattle.picture.proofs.room_check.Goals as goal

pub overflow_mul-plan : goal.overflow_mul-plan
overflow_mul-plan c =
    omega (arith, plan-small _ _ c.plan_of-plan.ensures c.requires)

pub returns-then-room-plan : goal.returns-then-room-plan
returns-then-room-plan c = rw (lt-ltb _ _ (rw (plan-size _ _ c.plan_of-plan.ensures) at c.if-room-plan.true))

pub returns : goal.returns
returns c = rw (le-ltb _ _ (rw (plan-size _ _ c.plan_of-plan.ensures) at c.if-room-plan.false))
