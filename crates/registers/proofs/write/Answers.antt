-- Rests on pointer_in: a board that passes has its pointer in the range that a load asks for.
use Rattle.std.proofs.Common.{sym}
use Rattle.registers.specs.Laws.{pointer_in}
use Rattle.registers.proofs.write.Goals as goal

pub active-requires : goal.active-requires
active-requires c = pointer_in _ (sym c.in_ok-register_check.ensures)
