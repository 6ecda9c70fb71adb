-- The answer after i records.
use Rattle.std.proofs.Common.{◌≡◌}
use Rattle.records.specs.Folds.{search_to}
use Rattle.phrases.proofs.search_in.Given as goal

abbrev pub invariant-loop-i : goal.invariant-loop-i
invariant-loop-i g l = l.s ≡ search_to (g.I.Index.kept l.index) l.fn.asked l.i
