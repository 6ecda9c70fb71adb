-- Rests on the test of IR0[7]: the two bits of the entry, or 0.
use mathlib.Core.Path.{refl, sym, ◌∙◌}
use Rattle.lists.specs.Choice.{stop, pass}
use Rattle.fetch.specs.Rows.{code_at}
use Rattle.fetch.proofs.code_at.Goals as goal

pub returns-then-coded_of : goal.returns-then-coded_of
unfolding code_at
returns-then-coded_of c =
    stop _ (sym c.coded_of.ensures ∙ c.if-coded_of.true) (rw c.byte_at.ensures)

pub returns : goal.returns
unfolding code_at
returns c = pass _ (sym c.coded_of.ensures ∙ c.if-coded_of.false) refl
