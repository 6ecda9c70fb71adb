-- Rests on what the calls ensure, and on the choice.
use borrow.Author.Tests.{eq-eqb, ne_eqb}
use Rattle.std.proofs.Common.{◌≡◌, refl, eqb}
use Rattle.lists.specs.Choice.{pick}
use Rattle.registers.proofs.reset.Goals.{then-b-eq0, else-b-eq0}
use Rattle.registers.proofs.reset.Goals as goal

pub returns : goal.returns
returns c =
    let resets : c.if-b-eq0.resets ≡ pick (eqb c.args.b.resets 0) 1 2 =
    elim c.if-b-eq0.branch [
      | then-b-eq0 w ↦ rw (w.resets-is, eq-eqb _ _ w.if-b-eq0.true)
      | else-b-eq0 w ↦ rw (w.resets-is, ne_eqb _ _ w.if-b-eq0.false)
    ] in
    rw (resets, c.clock_zero.ensures) refl
