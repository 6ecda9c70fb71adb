-- Rests on the invariant: whether a row so far does not begin where the one before it ended.
use Prim.Native.Nat.{◌-◌, ◌≤◌, ◌<◌}
use mathlib.Core.Path.{◌≡◌, refl}
use native.Mathlib.Omega.{arith}
use Rattle.lists.specs.Search.{any_below}
use Rattle.timing.specs.Fields.{timing_of, counts_of}
use Rattle.catalogue.specs.Marks.{apart_more, apart-all}
use Rattle.catalogue.proofs.rows_apart.Goals as goal

pub overflow_sub-n : goal.overflow_sub-n
unfolding timing_of counts_of
overflow_sub-n c =
    let few : (1 ≤ c.timing_of-t.result.counts.rows) × (c.timing_of-t.result.counts.rows ≤ 128) = rw c.timing_of-t.ensures (omega arith, omega arith) in
    few.0

pub loop-r-init : goal.loop-r-init
unfolding any_below
loop-r-init c = refl

pub entry-requires : goal.entry-requires
unfolding timing_of counts_of
entry-requires c =
    let few : (1 ≤ c.timing_of-t.result.counts.rows) × (c.timing_of-t.result.counts.rows ≤ 128) = rw c.timing_of-t.ensures (omega arith, omega arith) in
    let low : c.loop-r.r < 128 = omega (arith, few.1, c.loop-r-test.true) in
    (c.requires.1, omega (arith, low))

pub entry-next-requires : goal.entry-next-requires
unfolding timing_of counts_of
entry-next-requires c =
    let few : (1 ≤ c.timing_of-t.result.counts.rows) × (c.timing_of-t.result.counts.rows ≤ 128) = rw c.timing_of-t.ensures (omega arith, omega arith) in
    let low : c.loop-r.r < 128 = omega (arith, few.1, c.loop-r-test.true) in
    (c.requires.1, omega (arith, low))

pub loop-r-preserved : goal.loop-r-preserved
loop-r-preserved c =
    apart_more _ _ _ c.timing_of-t.ensures c.buffer_of-buffer.ensures c.entry.ensures (rw c.cells-columns.ensures at c.advance_by-end.ensures) c.entry-next.ensures c.loop-r.invariant

pub returns : goal.returns
returns c =
    let all : c.loop-r.r ≡ c.timing_of-t.result.counts.rows - 1 = omega arith in
    apart-all _ _ c.timing_of-t.ensures all c.loop-r.invariant
