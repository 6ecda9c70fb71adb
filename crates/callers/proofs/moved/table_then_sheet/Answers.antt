-- Rests on not-moved and moved-to-sheet.
use Rattle.std.proofs.Common.{rules}
use Rattle.callers.specs.Moved.{not-moved, moved-to-sheet}
use Rattle.callers.proofs.moved.table_then_sheet.Goals as goal

pub returns-then-there-ne0 : goal.returns-then-there-ne0
returns-then-there-ne0 c = not-moved _ _ c.feldrime_to_table-there.ensures c.if-there-ne0.true

pub returns : goal.returns
returns c =
    moved-to-sheet _ _ c.feldrime_to_table-there.ensures (λ i. search rules) c.if-there-ne0.false
    c.feldrime_to_sheet.ensures
