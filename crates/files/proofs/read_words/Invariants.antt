-- Rests on the loop that stores one word a turn (lists Tab).
use Prim.Native.Nat.{ℕ, ◌*◌}
use mathlib.Core.Path.{◌≡◌}
use mathlib.Core.List.{◌++◌}
use lib.ListN.{drop}
use Rattle.lists.specs.Tab.{tab}
use Rattle.files.specs.Page.{word_at}
use Rattle.files.proofs.read_words.Given as goal

abbrev pub invariant-loop-i : goal.invariant-loop-i
invariant-loop-i l = l.dst ≡ tab l.i (λ (k : ℕ). word_at l.src (2 * k)) ++ drop l.i l.initial.dst
