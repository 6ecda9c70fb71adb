-- Rests on table-written: the part put in its place is the memory with the table.
use native.Mathlib.Omega.{arith}
use lib.ListN.{length-take, length-drop}
use Rattle.timing.specs.Fields.{timing_of, counts_of}
use Rattle.timing.specs.Laws.{buffer-bounded}
use Rattle.catalogue.specs.Marks.{table-written}
use Rattle.catalogue.proofs.write_table.Goals as goal

pub put_table-requires : goal.put_table-requires
unfolding timing_of counts_of
put_table-requires c = (
  rw c.timing_of-t.ensures (simp (length-take, length-drop) (omega (arith, c.requires.1))),
  rw c.timing_of-t.ensures (omega arith),
  rw (c.cells-columns.ensures, c.timing_of-t.ensures) (omega arith),
  rw c.buffer_of.ensures (buffer-bounded _),
  omega (arith, c.requires.0.start1),
)

pub returns : goal.returns
returns c =
    table-written c.args.p _ _ c.requires.1 c.timing_of-t.ensures c.buffer_of.ensures (rw c.cells-columns.ensures at c.put_table.ensures)
