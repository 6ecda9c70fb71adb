-- Rests on the loop that stores one element a turn (lists Tab).
use mathlib.Core.Path.{◌≡◌}
use mathlib.Core.List.{◌++◌}
use lib.ListN.{drop}
use Rattle.lists.specs.Tab.{tab}
use Rattle.tables.specs.Tables.{levels_for}
use Rattle.tables.proofs.half.Given as goal

abbrev pub invariant-loop-attributes : goal.invariant-loop-attributes
invariant-loop-attributes l = l.number-items ≡ tab l.attributes (levels_for l.s l.here) ++ drop l.attributes l.initial.number-items
