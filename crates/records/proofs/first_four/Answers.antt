use mathlib.Core.Path.{refl}
use Rattle.lists.specs.Choice.{stop, pass}
use Rattle.records.specs.Folds.{first_four}
use Rattle.records.proofs.first_four.Goals as goal

pub returns-then-a : goal.returns-then-a
unfolding first_four
returns-then-a c = stop _ c.if-a.true refl

pub returns-then-b : goal.returns-then-b
unfolding first_four
returns-then-b c = pass _ c.if-a.false (stop _ c.if-b.true refl)

pub returns-then-c : goal.returns-then-c
unfolding first_four
returns-then-c c = pass _ c.if-a.false (pass _ c.if-b.false (stop _ c.if-c.true refl))

pub returns : goal.returns
unfolding first_four
returns c = pass _ c.if-a.false (pass _ c.if-b.false (pass _ c.if-c.false refl))
