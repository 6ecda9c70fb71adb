-- Rests on page-refused and page-wrote.
use Rattle.callers.specs.Again.{page-refused, page-wrote}
use Rattle.callers.proofs.again.page_again.Goals as goal

pub returns-then-read-ne0 : goal.returns-then-read-ne0
returns-then-read-ne0 c =
    page-refused _ (λ i. (c.type_inv.file i).fits) _ c.feldrime_page_read-read.ensures c.if-read-ne0.true

pub returns : goal.returns
returns c =
    page-wrote _ (λ i. (c.type_inv.file i).fits) _ c.feldrime_page_read-read.ensures c.if-read-ne0.false c.feldrime_page_write.ensures
