-- Rests on the loop that stores one code a turn (lists Tab).
use Rattle.std.proofs.Common.{◌≡◌, ◌++◌, drop}
use Rattle.lists.specs.Tab.{tab}
use Rattle.callers.specs.Texts.{code_by}
use Rattle.callers.proofs.texts.put_codes.Given as goal

abbrev pub invariant-loop-c : goal.invariant-loop-c
invariant-loop-c l = l.text ≡ tab l.c (code_by l.chars l.cells) ++ drop l.c l.initial.text
