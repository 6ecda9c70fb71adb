use borrow.Author.Rules.{rules}
use Rattle.timing.specs.Fields.{vsync_of}
use Rattle.timing.proofs.vsync_of.Goals as goal

pub returns-in-0 : goal.returns-in-0
unfolding vsync_of
returns-in-0 c = simp c.in-0.is

pub returns-in-1 : goal.returns-in-1
unfolding vsync_of
returns-in-1 c = simp c.in-1.is

pub returns-in-2 : goal.returns-in-2
unfolding vsync_of
returns-in-2 c = simp c.in-2.is

pub returns-in_default : goal.returns-in_default
unfolding vsync_of
returns-in_default c = search rules
