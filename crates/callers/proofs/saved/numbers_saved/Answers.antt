-- Rests on not_made and numbers-again.
use Rattle.callers.specs.Saved.{not_made, numbers-again}
use Rattle.callers.proofs.saved.numbers_saved.Goals as goal

pub returns-then-made-ne0 : goal.returns-then-made-ne0
returns-then-made-ne0 c =
    not_made _ (λ i. (c.type_inv.numbers i).fits) _ c.feldrime_board_of-made.ensures c.if-made-ne0.true

pub returns : goal.returns
returns c =
    numbers-again _ (λ i. (c.type_inv.numbers i).fits) _ c.feldrime_board_of-made.ensures c.if-made-ne0.false c.feldrime_numbers_of.ensures
