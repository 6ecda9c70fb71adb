-- Rests on place_found: the search over the marks gives the place of the definition.
use Prim.Native.Nat.{◌*◌, ◌≤◌}
use native.Mathlib.Nat.{mul-le-mul}
use native.Mathlib.Omega.{arith}
use borrow.Author.Rules.{rules}
use Rattle.timing.specs.Fields.{rows_of, hact_of, timing_of, counts_of}
use Rattle.timing.specs.Laws.{buffer-bounded}
use Rattle.catalogue.specs.Marks.{place_found}
use Rattle.catalogue.proofs.place_for.Goals as goal

pub times-requires : goal.times-requires
unfolding timing_of counts_of
times-requires c =
    let p = c.args.p in
    let rows : rows_of p ≤ 128 = omega arith in
    let columns : hact_of p ≤ 256 = omega arith in
    rw c.timing_of-t.ensures (omega (arith, mul-le-mul rows columns))

pub mark-requires : goal.mark-requires
mark-requires c = (search rules, rw c.buffer_of.ensures (buffer-bounded _), omega (arith, c.requires.start1))

pub lowest-requires : goal.lowest-requires
unfolding timing_of counts_of
lowest-requires c =
    let few : (1 ≤ 2 * c.timing_of-t.result.counts.rows) × (2 * c.timing_of-t.result.counts.rows ≤ 256) = rw c.timing_of-t.ensures (omega arith, omega arith) in
    let n = few in (search rules, n.0, omega (arith, n.1))

pub returns : goal.returns
returns c =
    place_found _ c.timing_of-t.ensures c.buffer_of.ensures (rw c.times.ensures at c.cells-cells.ensures) c.mark.ensures c.lowest.ensures
