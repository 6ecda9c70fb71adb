-- Rests on the contract of the write, by `refused`.
use Rattle.callers_registers.specs.Commands.{refused}
use Rattle.callers_registers.proofs.commands.not_carried.Goals as goal

pub returns : goal.returns
returns c ready e = refused ready _ e c.feldrime_register_write.ensures
