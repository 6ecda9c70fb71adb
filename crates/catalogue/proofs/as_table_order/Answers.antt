-- Rests on the tests in their order: 16, 19, 17.
use Prim.Native.Nat.{◌*◌, ◌≤◌}
use mathlib.Core.Path.{refl, sym, ◌∙◌}
use native.Mathlib.Omega.{arith}
use borrow.Author.Tests.{eq-eqb, ne_eqb}
use Rattle.lists.specs.Choice.{stop, pass}
use Rattle.timing.specs.Fields.{timing_of, counts_of}
use Rattle.catalogue.proofs.as_table_order.Goals as goal

pub overflow_sub-t : goal.overflow_sub-t
unfolding timing_of counts_of
overflow_sub-t c =
    let few : 2 * c.timing_of-t.result.counts.rows ≤ 256 = rw c.timing_of-t.ensures (omega arith) in
    omega (arith, few)

pub returns-then-place_for-t : goal.returns-then-place_for-t
unfolding timing_of counts_of
returns-then-place_for-t c =
    pass _ (sym c.table_of.ensures ∙ c.if-table_of.false)
    (pass _ (sym c.coded_of.ensures ∙ c.if-coded_of.false)
    (stop _ (eq-eqb _ _ (rw (c.place_for.ensures, c.timing_of-t.ensures) at c.if-place_for-t.true)) refl))

pub returns : goal.returns
unfolding timing_of counts_of
returns c =
    pass _ (sym c.table_of.ensures ∙ c.if-table_of.false)
    (pass _ (sym c.coded_of.ensures ∙ c.if-coded_of.false)
    (pass _ (ne_eqb _ _ (rw (c.place_for.ensures, c.timing_of-t.ensures) at c.if-place_for-t.false)) refl))
