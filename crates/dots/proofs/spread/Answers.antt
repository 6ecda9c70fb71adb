use Prim.Native.Nat.{◌+◌, ◌*◌, ◌≤◌}
use native.Mathlib.Omega.{arith}
use Rattle.dots.specs.Bytes.{two-nibbles, spread-ones}
use Rattle.dots.proofs.spread.Goals as goal

pub overflow_mul-result : goal.overflow_mul-result
overflow_mul-result c =
    let whole_le : c.nibble.result + c.nibble-2.result * 4294967296 ≤ 72340172838076673 = rw (c.nibble.ensures, c.nibble-2.ensures, two-nibbles) (spread-ones c.args.w) in
    omega (arith, whole_le)

pub overflow_add-result : goal.overflow_add-result
overflow_add-result c =
    let whole_le : c.nibble.result + c.nibble-2.result * 4294967296 ≤ 72340172838076673 = rw (c.nibble.ensures, c.nibble-2.ensures, two-nibbles) (spread-ones c.args.w) in
    omega (arith, whole_le)

pub returns : goal.returns
returns c = rw (c.nibble.ensures, c.nibble-2.ensures) (two-nibbles c.args.w)
