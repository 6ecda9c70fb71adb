-- Rests on the contracts of the three calls, by `put_back`; that the byte read is a byte, by `read-lt`.
use native.Mathlib.Omega.{arith}
use Rattle.callers_registers.specs.Addresses.{read-lt, put_back}
use Rattle.callers_registers.proofs.addresses.put_back.Goals as goal

pub overflow_cast-old : goal.overflow_cast-old
overflow_cast-old c = omega (arith, read-lt _ _ c.feldrime_register_read-old.ensures)

pub returns : goal.returns
returns c ready lo hi =
    put_back ready _ lo hi _ c.ranges.byte.fits c.feldrime_register_write-put.ensures c.feldrime_register_read-old.ensures c.feldrime_register_write.ensures
