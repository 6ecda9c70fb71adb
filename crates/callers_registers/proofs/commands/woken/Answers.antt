use Rattle.callers_registers.specs.Commands.{wakes}
use Rattle.callers_registers.proofs.commands.woken.Goals as goal

pub returns : goal.returns
returns c = wakes c.feldrime_power-off.ensures c.feldrime_register_write-once.ensures _ c.feldrime_register_write-twice.ensures c.feldrime_register_write.ensures
