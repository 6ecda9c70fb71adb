-- Rests on held_plain in character mode, found_here for a byte in the row itself, none_here if it has none.
use Prim.Native.Nat.{ℕ, min}
use mathlib.Core.Path.{◌≡◌, sym, ◌∙◌}
use mathlib.Core.Bool.{true}
use mathlib.Core.List.{List}
use native.Mathlib.Omega.{arith}
use Rattle.raster.specs.Latch.{last_set}
use Rattle.board.specs.declared.Page.{Page}
use Rattle.board.specs.Modes.{field_mode}
use Rattle.timing.specs.Fields.{hact_of, buffer_of}
use Rattle.fetch.specs.Rows.{row_start, fetched_before}
use Rattle.fetch.specs.Laws.{begun-least}
use Rattle.latch.specs.Held.{held_at}
use Rattle.latch.specs.Laws.{row_byte, held-least, held_plain, looked-in, found_here, none_here}
use Rattle.latch.proofs.held_at.Goals as goal
use Rattle.latch.proofs.held_at.Goals.{After-last_in_row-byte}

-- the search of the row itself
module _ (c : After-last_in_row-byte) where
  abbrev p : Page
  p = c.args.p

  abbrev chars : List ℕ
  chars = c.args.chars.now

  abbrev attrs : List ℕ
  attrs = c.args.attrs.now

  abbrev row : ℕ
  row = c.args.row

  abbrev column : ℕ
  column = c.args.column.0

  abbrev byte : ℕ
  byte = c.last_in_row-byte.result

  runs : field_mode p ≡ true
  runs = sym c.field_mode.ensures ∙ c.if-not-field_mode.false

  looked : byte ≡ last_set (row_byte attrs (buffer_of p) (row_start p chars row)) 0 (fetched_before p chars row (min column (hact_of p)))
  looked =
      looked-in p chars attrs runs row (fetched_before p chars row (min column (hact_of p))) c.buffer_of.ensures c.row_start-start.ensures
      (c.fetched_before-n.ensures ∙ sym (begun-least p chars row column)) c.last_in_row-byte.ensures

  found : (byte ≡ 0 → ⊥) → byte ≡ held_at p chars attrs row column
  found some = found_here p chars attrs runs row (min column (hact_of p)) byte (omega arith) looked some ∙ held-least p chars attrs row column

  none : byte ≡ 0 → held_at p chars attrs row 0 ≡ held_at p chars attrs row column
  none zero = none_here p chars attrs runs row (min column (hact_of p)) byte (omega arith) looked zero ∙ held-least p chars attrs row column

pub returns-then-not-field_mode : goal.returns-then-not-field_mode
returns-then-not-field_mode c = sym (held_plain _ _ _ (sym c.field_mode.ensures ∙ c.if-not-field_mode.true) _ _)

pub returns-then-byte-ne0 : goal.returns-then-byte-ne0
returns-then-byte-ne0 c = found (goal.at.returns-then-byte-ne0 c).After-last_in_row-byte c.if-byte-ne0.true

pub returns : goal.returns
returns c = c.requires.3 ∙ none (goal.at.returns c).After-last_in_row-byte c.if-byte-ne0.false
