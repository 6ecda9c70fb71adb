-- Rests on text-put and text-kept, by whether there is room.
use native.Mathlib.Omega.{arith}
use borrow.Author.Rules.{rules}
use Rattle.callers.specs.Texts.{readable, text-put, text-kept}
use Rattle.callers.proofs.texts.row_text.Goals as goal

pub put_codes-requires : goal.put_codes-requires
put_codes-requires c =
    readable _ _ _ c.feldrime_row_cells-given.ensures (search rules) _ c.if-n-text.true

pub returns-then-n-text : goal.returns-then-n-text
returns-then-n-text c =
    text-put _ _ _ c.feldrime_row_cells-given.ensures _ c.if-n-text.true c.put_codes.ensures

pub returns-else-n-text : goal.returns-else-n-text
returns-else-n-text c = text-kept _ _ _ c.feldrime_row_cells-given.ensures _ (omega (arith, c.if-n-text.false))
