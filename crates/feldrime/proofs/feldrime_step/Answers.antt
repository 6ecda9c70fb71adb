-- Rests on the step by value.
use Rattle.std.proofs.Common.{ap}
use Rattle.feldrime.proofs.feldrime_step.Goals as goal

pub returns : goal.returns
returns c = (ap (λ s. s.answer) c.step_numbers-s.ensures, ap (λ s. s.board) c.step_numbers-s.ensures)
