use Rattle.std.proofs.Common.{refl}
use Rattle.std.proofs.Math.Bool.{and-false}
use Rattle.lists.specs.Choice.{stop, pass}
use Rattle.records.specs.Folds.{pair_visit}
use Rattle.records.proofs.visit_pair.Goals as goal

pub returns-then-pair-m : goal.returns-then-pair-m
unfolding pair_visit
returns-then-pair-m c = stop _ c.if-pair-m.true refl

pub returns-then-pair : goal.returns-then-pair
unfolding pair_visit
returns-then-pair c = pass _ c.if-pair-m.false (rw (c.in-Some.is, c.if-pair.true) c.found_pair.ensures)

pub returns-else-pair : goal.returns-else-pair
unfolding pair_visit
returns-else-pair c = pass _ c.if-pair-m.false (rw (c.in-Some.is, c.if-pair.false))

pub returns-in_default : goal.returns-in_default
unfolding pair_visit
returns-in_default c = pass _ c.if-pair-m.false (rw (c.in_default.is, and-false))
