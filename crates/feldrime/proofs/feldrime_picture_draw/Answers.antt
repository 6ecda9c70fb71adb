-- Rests on three and taken: 3 for the numbers, else what draw_picture answers.
use mathlib.Core.Path.{sym, ◌∙◌}
use Rattle.feldrime.specs.PictureDraw.{picture_draw_check, picture_drawn}
use Rattle.numbers.specs.Laws.{numbers-room}
use Rattle.feldrime.specs.Laws.{three, taken}
use Rattle.feldrime.proofs.feldrime_picture_draw.Goals as goal

pub returns-then-numbers_refused : goal.returns-then-numbers_refused
unfolding picture_draw_check picture_drawn
returns-then-numbers_refused c =
    three _ _ _ _ _ (sym c.numbers_refused.ensures ∙ c.if-numbers_refused.true) c.answered.ensures

pub board_at-b-requires : goal.board_at-b-requires
board_at-b-requires c = numbers-room c.args.numbers.now (sym c.numbers_refused.ensures ∙ c.if-numbers_refused.false)

pub returns : goal.returns
unfolding picture_draw_check picture_drawn
returns c =
    taken _ _ _ _ _ (sym c.numbers_refused.ensures ∙ c.if-numbers_refused.false) _ _ (rw c.board_at-b.ensures at c.draw_picture-refused.ensures) c.answered-2.ensures
