-- Rests on font-refused and font-wrote.
use mathlib.Core.Path.{refl}
use Rattle.callers.specs.Again.{font-refused, font-wrote}
use Rattle.callers.proofs.again.font_again.Goals as goal

pub returns-then-read-ne0 : goal.returns-then-read-ne0
returns-then-read-ne0 c = font-refused _ (λ i. (c.type_inv.file i).fits) _ c.feldrime_font_read-read.ensures c.if-read-ne0.true

pub returns : goal.returns
returns c =
    font-wrote _ (λ i. (c.type_inv.file i).fits) _ c.feldrime_font_read-read.ensures c.if-read-ne0.false refl c.write_font-refused.ensures c.number.ensures c.beside.ensures
