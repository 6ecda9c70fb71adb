-- Rests on not_made, not_written and numbers-read, one for each way out.
use mathlib.Core.Path.{sym}
use native.Mathlib.Omega.{arith}
use lib.Seq.{length-take-le}
use Rattle.files.specs.Laws.{file-most}
use Rattle.callers.specs.Numbers.{not_made, not_written, numbers-read}
use Rattle.callers.proofs.again.numbers_again.Goals as goal

pub returns-then-made-ne0 : goal.returns-then-made-ne0
returns-then-made-ne0 c =
    not_made _ (λ i. (c.type_inv.numbers i).fits) c.args.chars.now c.args.attrs.now _ c.feldrime_board_of-made.ensures c.if-made-ne0.true

pub returns-then-refused-ne0 : goal.returns-then-refused-ne0
returns-then-refused-ne0 c =
    not_written _ (λ i. (c.type_inv.numbers i).fits) _ _ _ c.feldrime_board_of-made.ensures c.if-made-ne0.false c.write_page.ensures c.number-refused.ensures c.if-refused-ne0.true

pub slice_bounds-file-end : goal.slice_bounds-file-end
slice_bounds-file-end c = omega (arith, c.file_size-n.ensures, file-most c.feldrime_board_of-made.result.board.page.version)

pub slice_bounds-feldrime_page_read-end : goal.slice_bounds-feldrime_page_read-end
slice_bounds-feldrime_page_read-end c = sym (length-take-le _ _ (omega (arith, c.file_size-n.ensures, file-most c.feldrime_board_of-made.result.board.page.version)))

pub returns : goal.returns
returns c =
    let read = c.feldrime_page_read.ensures in
    numbers-read _ (λ i. (c.type_inv.numbers i).fits) _ _ _ c.feldrime_board_of-made.ensures c.if-made-ne0.false c.write_page.ensures c.number-refused.ensures c.if-refused-ne0.false
    (rw c.file_size-n.ensures) (read.0, read.1)
