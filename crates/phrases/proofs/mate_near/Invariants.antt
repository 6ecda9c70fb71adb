-- The mate among the first i records.
use Rattle.std.proofs.Common.{◌≡◌}
use Rattle.records.specs.Folds.{mate_to}
use Rattle.phrases.proofs.mate_near.Given as goal

abbrev pub invariant-loop-i : goal.invariant-loop-i
invariant-loop-i g l = l.s ≡ mate_to (g.I.Index.kept l.index) l.after l.i
