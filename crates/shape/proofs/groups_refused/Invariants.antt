-- What was seen so far, and what is left, decide.
use mathlib.Core.Path.{◌≡◌}
use mathlib.Core.Bool.{◌||◌}
use lib.ListN.{drop}
use Rattle.shape.specs.Font.{groups_refused}
use Rattle.shape.proofs.groups_refused.Given as goal

abbrev pub invariant-loop-group : goal.invariant-loop-group
invariant-loop-group l = (l.above || groups_refused (drop l.group-index l.groups)) ≡ groups_refused l.groups
