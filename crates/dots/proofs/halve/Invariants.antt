-- Rests on the loop that stores one dot a turn (lists Tab).
use mathlib.Core.Path.{◌≡◌}
use mathlib.Core.List.{◌++◌}
use lib.ListN.{drop}
use Rattle.lists.specs.Tab.{tab}
use Rattle.dots.specs.Half.{half_by}
use Rattle.dots.proofs.halve.Given as goal

abbrev pub invariant-loop-i : goal.invariant-loop-i
invariant-loop-i l = l.dot-items ≡ tab l.i (half_by l.cell l.from) ++ drop l.i l.initial.dot-items
