use borrow.Author.Tests.{eq-eqb, ne_eqb}
use Rattle.files.specs.File.{length_refused}
use Rattle.files.proofs.length_refused.Goals as goal

pub returns-then-file-n : goal.returns-then-file-n
unfolding length_refused
returns-then-file-n c = simp (ne_eqb _ _ c.if-file-n.true)

pub returns : goal.returns
unfolding length_refused
returns c = simp (eq-eqb _ _ c.if-file-n.false, c.long_at.ensures)
