-- Rests on the loop that stores one byte a turn (lists Tab).
use mathlib.Core.Path.{◌≡◌}
use mathlib.Core.List.{◌++◌}
use lib.ListN.{drop}
use Rattle.lists.specs.Tab.{tab}
use Rattle.files.specs.FontFile.{byte_of}
use Rattle.files.proofs.write_words.Given as goal

abbrev pub invariant-loop-i : goal.invariant-loop-i
invariant-loop-i l = l.dst ≡ tab l.i (byte_of l.src) ++ drop l.i l.initial.dst
