-- Rests on cells-passed for what the callees ask, on cells-given for what is left.
use Rattle.std.specs.Prelude.{Ok}
use Rattle.std.proofs.Common.{sym, ap, arith}
use native.Mathlib.Nat.{le_trans}
use Rattle.timing.specs.Laws.{buffer-bounded}
use Rattle.fetch.specs.Laws.{run-passed, row-start-lt, fetched-small}
use Rattle.fetch.specs.RowLaws.{cells-passed, cells-given}
use Rattle.fetch.proofs.row_cells.Goals as goal

pub fetched_of-count-requires : goal.fetched_of-count-requires
fetched_of-count-requires c =
    let k = run-passed _ _ _ (cells-passed _ _ _ _ (sym c.in_ok-cells_check.ensures)).0 in
    (k.whole, omega (arith, k.row_lt))

pub row_start-start-requires : goal.row_start-start-requires
row_start-start-requires c =
    let k = run-passed _ _ _ (cells-passed _ _ _ _ (sym c.in_ok-cells_check.ensures)).0 in
    (k.whole, omega (arith, k.row_lt))

pub put_cells-requires : goal.put_cells-requires
put_cells-requires c =
    let p = cells-passed _ _ _ _ (sym c.in_ok-cells_check.ensures) in
    let k = run-passed _ _ _ p.0 in
    rw (c.buffer_of.ensures, c.row_start-start.ensures, c.fetched_of-count.ensures)
    (buffer-bounded _, row-start-lt _ _ k.page _, le_trans (fetched-small _ _ _).1 p.1)

pub returns : goal.returns
returns c =
    let ok = sym c.in_ok-cells_check.ensures in
    cells-given _ _ _ _ ok (ap Ok c.fetched_of-count.ensures) (rw (c.buffer_of.ensures, c.row_start-start.ensures, c.fetched_of-count.ensures) at c.put_cells.ensures)
