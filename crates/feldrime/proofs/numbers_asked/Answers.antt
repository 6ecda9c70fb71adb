-- Rests on numbers-room: numbers that are not refused have a page at their front.
use mathlib.Core.Path.{refl, sym, ap, ◌∙◌}
use Rattle.lists.specs.Choice.{stop, pass}
use Rattle.board.specs.declared.Board.{Board}
use Rattle.records.specs.Ends.{asked_of}
use Rattle.numbers.specs.Laws.{numbers-room}
use Rattle.feldrime.specs.Phrases.{asked_for}
use Rattle.feldrime.proofs.numbers_asked.Goals as goal

pub returns-then-numbers_refused : goal.returns-then-numbers_refused
unfolding asked_for
returns-then-numbers_refused c = stop _ (sym c.numbers_refused.ensures ∙ c.if-numbers_refused.true) refl

pub board_at-requires : goal.board_at-requires
board_at-requires c = numbers-room c.args.numbers.now (sym c.numbers_refused.ensures ∙ c.if-numbers_refused.false)

pub returns : goal.returns
unfolding asked_for
returns c =
    let args = c.args in
    pass _ (sym c.numbers_refused.ensures ∙ c.if-numbers_refused.false)
    (c.row_asked.ensures ∙ ap (λ (b : Board). asked_of b args.chars.now args.row) c.board_at.ensures)
