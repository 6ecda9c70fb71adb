-- Rests on numbers-room: numbers that are not refused have a page at their front.
use mathlib.Core.Path.{refl, sym, ◌∙◌}
use Rattle.lists.specs.Choice.{stop, pass}
use Rattle.numbers.specs.Files.{page_write_check, page_written}
use Rattle.numbers.specs.Laws.{numbers-room}
use Rattle.numbers.proofs.write_file.Goals as goal

pub returns-then-numbers_refused : goal.returns-then-numbers_refused
unfolding page_write_check page_written
returns-then-numbers_refused c = let t = sym c.numbers_refused.ensures ∙ c.if-numbers_refused.true in (stop _ t refl, stop _ t refl)

pub board_at-requires : goal.board_at-requires
board_at-requires c = numbers-room c.args.numbers.now (sym c.numbers_refused.ensures ∙ c.if-numbers_refused.false)

pub returns : goal.returns
unfolding page_write_check page_written
returns c =
    let t = sym c.numbers_refused.ensures ∙ c.if-numbers_refused.false in
    let write = rw c.board_at.ensures at c.write_page.ensures in
    (pass _ t write.0, pass _ t write.1)
