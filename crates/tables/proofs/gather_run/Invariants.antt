-- Rests on the invariant: cells put, and what is valid before the next one.
use mathlib.Core.Path.{◌≡◌}
use mathlib.Core.List.{◌++◌}
use lib.ListN.{drop}
use Rattle.lists.specs.Tab.{tab}
use Rattle.tables.specs.Tables.{held_by, cell_by}
use Rattle.tables.specs.Run.{whole}
use Rattle.tables.proofs.gather_run.Given as goal

abbrev pub invariant-loop-c : goal.invariant-loop-c
invariant-loop-c l =
    (l.number-items ≡ tab l.c (cell_by l.k l.chars l.attrs whole l.held l.from) ++ drop l.c l.initial.number-items)
    × (l.valid ≡ held_by l.k.runs l.attrs whole l.held l.from l.c)
