-- Rests on the contracts of the step and of `feldrime_state_at`: a loop over `goes`, ended by `stepped`.
use mathlib.Core.Path.{refl}
use native.Mathlib.Omega.{arith}
use Rattle.callers_stepped.specs.States.{on, not-stepped, stepped, goes}
use Rattle.callers_stepped.proofs.states.stepped_to.Goals as goal

pub returns-then-refused-ne0 : goal.returns-then-refused-ne0
returns-then-refused-ne0 c = not-stepped _ _ _ _ _ _ _ _ _ c.step_numbers-tried.ensures c.if-refused-ne0.true

pub loop-init : goal.loop-init
unfolding on
loop-init c = refl

pub loop-preserved : goal.loop-preserved
loop-preserved c = goes _ _ _ _ _ _ _ _ _ c.loop.invariant c.step_numbers-s.ensures

pub returns : goal.returns
returns c =
    stepped _ _ _ _ _ _ _ _ _ c.step_numbers-tried.ensures c.if-refused-ne0.false _ _ c.feldrime_state_at-asked.ensures c.loop.invariant (omega arith)
