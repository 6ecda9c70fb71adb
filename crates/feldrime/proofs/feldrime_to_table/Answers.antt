-- Rests on the test of the numbers: 3, else what to_table answers and put_page leaves.
use mathlib.Core.Path.{refl, sym, ◌∙◌}
use Rattle.lists.specs.Choice.{stop, pass}
use Rattle.catalogue.specs.Marks.{as-table-width}
use Rattle.numbers.specs.Laws.{numbers-all, numbers-room}
use Rattle.feldrime.specs.Catalogue.{to_table_check, to_table_numbers, to_table_chars}
use Rattle.feldrime.specs.Laws.{three, taken}
use Rattle.feldrime.proofs.feldrime_to_table.Goals as goal

pub returns-then-numbers_refused : goal.returns-then-numbers_refused
unfolding to_table_check to_table_numbers to_table_chars
returns-then-numbers_refused c =
    let t = sym c.numbers_refused.ensures ∙ c.if-numbers_refused.true in
    let kept = three _ _ _ _ _ t c.answered.ensures in
    (kept.0, kept.1, stop _ t refl)

pub board_at-requires : goal.board_at-requires
board_at-requires c =
    numbers-room c.args.numbers.now (sym c.numbers_refused.ensures ∙ c.if-numbers_refused.false)

pub put_page-requires : goal.put_page-requires
put_page-requires c =
    (numbers-all _ (sym c.numbers_refused.ensures ∙ c.if-numbers_refused.false), rw c.to_table-moved.ensures.0 (as-table-width _ _))

pub returns : goal.returns
unfolding to_table_check to_table_numbers to_table_chars
returns c =
    let t = sym c.numbers_refused.ensures ∙ c.if-numbers_refused.false in
    let left_so = taken _ _ _ _ _ t _ _
    (rw (c.to_table-moved.ensures.0, c.board_at.ensures) refl, c.put_page.ensures ∙ rw (c.to_table-moved.ensures.0, c.board_at.ensures) refl)
    c.answered_move.ensures in
    (left_so.0, left_so.1, pass _ t (rw c.board_at.ensures at c.to_table-moved.ensures.1))
