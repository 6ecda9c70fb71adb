-- Rests on the contracts of the two calls, by `read_again`.
use Rattle.callers_registers.specs.Addresses.{read_again}
use Rattle.callers_registers.proofs.addresses.read_again.Goals as goal

pub returns : goal.returns
returns c ready lo hi =
    read_again ready _ lo hi _ c.ranges.byte.fits c.feldrime_register_write-put.ensures c.feldrime_register_read.ensures
