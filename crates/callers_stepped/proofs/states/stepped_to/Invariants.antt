-- Rests on the contracts of the step and of `feldrime_state_at`: a loop over `goes`, ended by `stepped`.
use mathlib.Core.Path.{◌≡◌}
use Rattle.shape.specs.Font.{font_of}
use Rattle.callers_stepped.specs.States.{on}
use Rattle.callers_stepped.proofs.states.stepped_to.Given as goal

abbrev pub invariant-loop : goal.invariant-loop
invariant-loop l = l.at ≡ on l.initial.at l.chars l.attrs (font_of l.words l.flags l.unshifted l.shifted l.groups) l.counter
