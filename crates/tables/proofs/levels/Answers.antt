use Prim.Native.Nat.{◌<◌}
use native.Mathlib.Omega.{arith}
use Rattle.tables.specs.Tables.{levels_for}
use Rattle.tables.specs.Marks.{look-few}
use Rattle.tables.proofs.levels.Goals as goal

pub overflow_mul-result : goal.overflow_mul-result
overflow_mul-result c =
    let few : (c.look_of-look.result.symbol < 4) × (c.under.result < 4) = rw (c.under.ensures, c.look_of-look.ensures) (look-few _ _ _ c.requires) in
    omega (arith, few.1)

pub overflow_add-result : goal.overflow_add-result
overflow_add-result c =
    let few : (c.look_of-look.result.symbol < 4) × (c.under.result < 4) = rw (c.under.ensures, c.look_of-look.ensures) (look-few _ _ _ c.requires) in
    omega (arith, few)

pub returns : goal.returns
unfolding levels_for
returns c = rw (c.under.ensures, c.look_of-look.ensures)
