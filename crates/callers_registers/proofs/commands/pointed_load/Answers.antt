-- Rests on the contracts of both writes, by `loaded`.
use Rattle.callers_registers.specs.Commands.{loaded}
use Rattle.callers_registers.proofs.commands.pointed_load.Goals as goal

pub returns : goal.returns
returns c ready lo hi = loaded ready _ lo hi _ c.feldrime_register_write-pointed.ensures c.feldrime_register_write.ensures
