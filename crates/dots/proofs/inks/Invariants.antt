-- Rests on the loop that stores one number a turn (lists Tab).
use mathlib.Core.Path.{◌≡◌}
use mathlib.Core.List.{◌++◌}
use lib.ListN.{drop}
use Rattle.lists.specs.Tab.{tab}
use Rattle.dots.specs.Stores.{ink_of}
use Rattle.dots.proofs.inks.Given as goal

abbrev pub invariant-loop-i : goal.invariant-loop-i
invariant-loop-i l = l.table ≡ tab l.i ink_of ++ drop l.i l.initial.table
