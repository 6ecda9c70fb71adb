-- Rests on the loop that stores one element a turn (lists Tab).
use mathlib.Core.Path.{◌≡◌}
use mathlib.Core.List.{◌++◌}
use lib.ListN.{drop}
use Rattle.lists.specs.Tab.{tab}
use Rattle.tables.specs.Tables.{code_word}
use Rattle.tables.proofs.code_words.Given as goal

abbrev pub invariant-loop-code : goal.invariant-loop-code
invariant-loop-code l = l.table ≡ tab l.code (code_word l.words l.flags l.line l.graphics l.d) ++ drop l.code l.initial.table
