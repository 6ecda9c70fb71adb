-- Rests on prepared-of: the gathered cells and the looks make the columns of the line.
use Prim.Native.Nat.{ℕ, ◌≤◌, ◌<◌}
use mathlib.Core.Path.{◌≡◌}
use native.Mathlib.Omega.{arith}
use borrow.Author.Rules.{rules}
use lib.ListN.{length, get_or}
use Rattle.timing.specs.Fields.{timing_of, counts_of}
use Rattle.timing.specs.Laws.{buffer-bounded}
use Rattle.fetch.specs.Laws.{row-start-lt, fetched-small}
use Rattle.tables.specs.Marks.{blank-lt}
use Rattle.line.specs.Walk.{Prepared, prepared-of, ready, drawn}
use Rattle.line.proofs.whole_line.Goals as goal

pub held_for-held-requires : goal.held_for-held-requires
held_for-held-requires c =
    let in-page : (length c.args.chars.now ≡ 16384) × (c.row_of-row.result < 8192) = (c.requires.lent.chars-all, rw c.row_of-row.ensures (omega (arith, c.requires.scan_value.1))) in
    (in-page.0, c.requires.lent.attrs-all, in-page.1, rw c.row_start-start.ensures (row-start-lt _ _ c.requires.lent.page _))

pub gather-requires : goal.gather-requires
gather-requires c = (
  c.requires.lent.chars-all,
  c.requires.lent.attrs-all,
  rw c.fetched_of-n.ensures (fetched-small _ _ _).1,
  rw c.buffer_of.ensures (buffer-bounded _),
  rw c.row_start-start.ensures (row-start-lt _ _ c.requires.lent.page _),
)

pub looks-requires : goal.looks-requires
looks-requires c = (search rules, rw c.scene_of.ensures (blank-lt _ _ _))

pub columns-requires : goal.columns-requires
unfolding timing_of counts_of
columns-requires c =
    let prepared : Prepared c.args.b c.args.chars.now c.args.attrs.now c.args.font c.args.line.0
    c.args.field c.timing_of-t.result.counts.hact.0 c.walk_of-w.result c.is_wide-wide.result
    c.gather.new.cells c.looks.new.table =
    prepared-of c.args.b _ _ c.args.font _ _ _ _ c.timing_of-t.ensures c.row_of-row.ensures c.code_at.ensures c.from-code.ensures
    c.requires.scan_value.0 c.walk_of-w.ensures c.requires.lent.page c.row_start-start.ensures c.held_for-held.ensures
    c.fetched_of-n.ensures c.reading_of.ensures c.buffer_of.ensures c.gather.ensures.1
    c.scene_of.ensures c.looks.ensures c.is_wide-wide.ensures in
    let bytes : (i : ℕ) → get_or c.args.chars.now i 0 < 256 = λ i. omega (arith, c.type_inv.chars i) in
    let few : c.timing_of-t.result.counts.hact.0 ≤ 256 = rw c.timing_of-t.ensures (omega arith) in
    let q = ready _ _ _ _ _ _ _ _ _ _ _ _ _ prepared bytes c.requires.lent c.requires.scan_value.2 (omega (arith, few)) (search rules) in
    record { ready = (q.0, few); width_in_bounds = q.1 }

pub returns : goal.returns
returns c =
    let prepared : Prepared c.args.b c.args.chars.now c.args.attrs.now c.args.font c.args.line.0
    c.args.field c.timing_of-t.result.counts.hact.0 c.walk_of-w.result c.is_wide-wide.result
    c.gather.new.cells c.looks.new.table =
    prepared-of c.args.b _ _ c.args.font _ _ _ _ c.timing_of-t.ensures c.row_of-row.ensures c.code_at.ensures c.from-code.ensures
    c.requires.scan_value.0 c.walk_of-w.ensures c.requires.lent.page c.row_start-start.ensures c.held_for-held.ensures
    c.fetched_of-n.ensures c.reading_of.ensures c.buffer_of.ensures c.gather.ensures.1
    c.scene_of.ensures c.looks.ensures c.is_wide-wide.ensures in
    let bytes : (i : ℕ) → get_or c.args.chars.now i 0 < 256 = λ i. omega (arith, c.type_inv.chars i) in
    drawn _ _ _ _ _ _ _ _ _ _ _ _ _ prepared bytes c.requires.lent.page _ _ c.columns.ensures
