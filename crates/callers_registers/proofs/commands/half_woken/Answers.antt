use Rattle.callers_registers.specs.Commands.{wakes-not}
use Rattle.callers_registers.proofs.commands.half_woken.Goals as goal

pub returns : goal.returns
returns c = wakes-not c.feldrime_power-off.ensures c.feldrime_register_write-once.ensures _ c.feldrime_register_write.ensures
