-- Rests on three and taken: 3 for the numbers, else what to_sheet answers and put_page leaves.
use mathlib.Core.Path.{refl, sym, ◌∙◌}
use Rattle.catalogue.specs.Marks.{as-sheet-width}
use Rattle.numbers.specs.Laws.{numbers-all, numbers-room}
use Rattle.feldrime.specs.Catalogue.{to_sheet_check, to_sheet_numbers}
use Rattle.feldrime.specs.Laws.{three, taken}
use Rattle.feldrime.proofs.feldrime_to_sheet.Goals as goal

pub returns-then-numbers_refused : goal.returns-then-numbers_refused
unfolding to_sheet_check to_sheet_numbers
returns-then-numbers_refused c = three _ _ _ _ _ (sym c.numbers_refused.ensures ∙ c.if-numbers_refused.true) c.answered.ensures

pub board_at-requires : goal.board_at-requires
board_at-requires c =
    numbers-room c.args.numbers.now (sym c.numbers_refused.ensures ∙ c.if-numbers_refused.false)

pub put_page-requires : goal.put_page-requires
put_page-requires c =
    (numbers-all _ (sym c.numbers_refused.ensures ∙ c.if-numbers_refused.false), rw c.to_sheet-moved.ensures (as-sheet-width _ _))

pub returns : goal.returns
unfolding to_sheet_check to_sheet_numbers
returns c =
    taken _ _ _ _ _ (sym c.numbers_refused.ensures ∙ c.if-numbers_refused.false) _ _
    (rw (c.to_sheet-moved.ensures, c.board_at.ensures) refl, c.put_page.ensures ∙ rw (c.to_sheet-moved.ensures, c.board_at.ensures) refl)
    c.answered_move.ensures
