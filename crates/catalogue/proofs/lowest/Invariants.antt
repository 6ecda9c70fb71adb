-- Rests on the invariant: a is the lowest place that is left, and the cells from there to x have no mark.
use Rattle.catalogue.specs.Marks.{Searching}
use Rattle.catalogue.proofs.lowest.Given as goal

abbrev pub invariant-loop-x : goal.invariant-loop-x
invariant-loop-x l = Searching l.marks l.n l.a l.x
