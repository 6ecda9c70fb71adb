-- Rests on the invariant: after i turns 2 i dots stand at the front.
use Prim.Native.Nat.{◌*◌}
use mathlib.Core.Path.{◌≡◌}
use mathlib.Core.List.{◌++◌}
use lib.ListN.{drop}
use Rattle.lists.specs.Tab.{tab}
use Rattle.dots.specs.Half.{half_by}
use Rattle.dots.proofs.pairs.Given as goal

abbrev pub invariant-loop-i : goal.invariant-loop-i
invariant-loop-i l = l.out ≡ tab (2 * l.i) (half_by l.dots 0) ++ drop (2 * l.i) l.initial.out
