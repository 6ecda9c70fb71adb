-- The mate among the records before the next four.
use Rattle.std.proofs.Common.{◌≡◌, ◌+◌, ◌*◌}
use Rattle.records.specs.Folds.{mate_to}
use Rattle.phrases.proofs.mate_of.Given as goal

abbrev pub invariant-loop-four : goal.invariant-loop-four
invariant-loop-four g l = l.s ≡ mate_to (g.I.Index.kept l.index) l.after (l.from + 4 * l.four)
