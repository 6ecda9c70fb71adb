-- Rests on the invariant: what is valid before the row left is what is valid before the row asked for.
use Prim.Native.Nat.{ℕ, ◌-◌}
use mathlib.Core.Path.{◌≡◌, sym, ◌∙◌}
use mathlib.Core.List.{List}
use native.Mathlib.Omega.{arith}
use Rattle.raster.specs.Latch.{last_set}
use Rattle.board.specs.declared.Page.{Page}
use Rattle.timing.specs.Fields.{buffer_of}
use Rattle.fetch.specs.Rows.{row_start, fetched_of}
use Rattle.latch.specs.Held.{held_at}
use Rattle.latch.specs.Laws.{row_byte, held_first, looked-in, found-above, none_above}
use Rattle.latch.proofs.held_above.Goals as goal
use Rattle.latch.proofs.held_above.Goals.{After-last_in_row-byte}

-- a turn of the loop looks through the row above
module _ (c : After-last_in_row-byte) where
  abbrev p : Page
  p = c.args.p

  abbrev chars : List ℕ
  chars = c.args.chars.now

  abbrev attrs : List ℕ
  attrs = c.args.attrs.now

  abbrev left : ℕ
  left = c.loop-above.above

  abbrev byte : ℕ
  byte = c.last_in_row-byte.result

  looked : byte ≡ last_set (row_byte attrs (buffer_of p) (row_start p chars (left - 1))) 0 (fetched_of p chars (left - 1))
  looked =
      looked-in p chars attrs c.requires.3 (left - 1) (fetched_of p chars (left - 1)) c.buffer_of-buffer.ensures c.row_start-start.ensures
      c.fetched_of-n.ensures c.last_in_row-byte.ensures

  found : (byte ≡ 0 → ⊥) → byte ≡ held_at p chars attrs left 0
  found = found-above p chars attrs c.requires.3 left byte c.loop-above-test.true looked

  none : byte ≡ 0 → held_at p chars attrs (left - 1) 0 ≡ held_at p chars attrs left 0
  none = none_above p chars attrs c.requires.3 left byte c.loop-above-test.true looked

pub returns-then-byte-ne0 : goal.returns-then-byte-ne0
returns-then-byte-ne0 c = found (goal.at.returns-then-byte-ne0 c).After-last_in_row-byte c.if-byte-ne0.true ∙ c.loop-above.invariant

pub loop-above-preserved : goal.loop-above-preserved
loop-above-preserved c = none (goal.at.loop-above-preserved c).After-last_in_row-byte c.if-byte-ne0.false ∙ c.loop-above.invariant

pub returns : goal.returns
returns c =
    let z : c.loop-above.above ≡ 0 = omega (arith, c.loop-above-test.false) in
    sym (held_first _ _ _) ∙ (rw z at c.loop-above.invariant)
