-- Rests on the contracts of both writes, by `switched`.
use Rattle.callers_registers.specs.Commands.{switched}
use Rattle.callers_registers.proofs.commands.switched.Goals as goal

pub returns : goal.returns
returns c ready e f = switched ready _ _ e f c.feldrime_register_write-once.ensures c.feldrime_register_write.ensures
