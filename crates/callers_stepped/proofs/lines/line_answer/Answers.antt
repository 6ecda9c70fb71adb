-- Rests on the order of refusals: the numbers, what is lent, the page, the line, the room.
use mathlib.Core.Path.{◌∙◌}
use native.Mathlib.Omega.{arith}
use Rattle.callers_stepped.specs.Asked.{numbers-three, lent-three, lent-twelve, pages-own, hidden, no_room, nothing}
use Rattle.callers_stepped.proofs.lines.line_answer.Goals as goal

pub returns-then-made-eq3 : goal.returns-then-made-eq3
returns-then-made-eq3 c = c.alone.ensures ∙ numbers-three _ _ _ _ _ _ _ _ _ _ c.feldrime_board_of-made.ensures c.if-made-eq3.true

pub returns-then-tried-eq3 : goal.returns-then-tried-eq3
returns-then-tried-eq3 c = c.alone-then-tried-eq3.ensures ∙ lent-three _ _ _ _ _ _ _ _ _ _ c.feldrime_board_of-made.ensures c.step_numbers-tried.ensures c.if-tried-eq3.true

pub returns-then-tried-eq12 : goal.returns-then-tried-eq12
returns-then-tried-eq12 c =
    c.alone-then-tried-eq12.ensures ∙ lent-twelve _ _ _ _ _ _ _ _ _ _ c.feldrime_board_of-made.ensures c.step_numbers-tried.ensures c.if-made-eq3.false c.if-tried-eq12.true

pub returns-then-made-ne0 : goal.returns-then-made-ne0
returns-then-made-ne0 c =
    pages-own _ _ _ _ _ _ _ _ _ _ c.feldrime_board_of-made.ensures c.step_numbers-tried.ensures c.if-made-eq3.false c.if-tried-eq3.false c.if-tried-eq12.false c.if-made-ne0.true

pub returns-then-size-line : goal.returns-then-size-line
returns-then-size-line c =
    c.alone-then-size-line.ensures
    ∙ hidden _ _ _ _ _ _ _ _ _ _ c.feldrime_board_of-made.ensures c.step_numbers-tried.ensures c.if-made-eq3.false c.if-tried-eq3.false c.if-tried-eq12.false c.if-made-ne0.false
    c.feldrime_page_size-size.ensures (omega (arith, c.if-size-line.true))

pub returns-then-room-size : goal.returns-then-room-size
returns-then-room-size c =
    c.alone-then-room-size.ensures
    ∙ no_room _ _ _ _ _ _ _ _ _ _ c.feldrime_board_of-made.ensures c.step_numbers-tried.ensures c.if-made-eq3.false c.if-tried-eq3.false c.if-tried-eq12.false c.if-made-ne0.false
    c.feldrime_page_size-size.ensures (omega (arith, c.if-size-line.false)) (omega (arith, c.if-room-size.true))

pub returns : goal.returns
returns c =
    c.alone-2.ensures
    ∙ nothing _ _ _ _ _ _ _ _ _ _ c.feldrime_board_of-made.ensures c.step_numbers-tried.ensures c.if-made-eq3.false c.if-tried-eq3.false c.if-tried-eq12.false c.if-made-ne0.false
    c.feldrime_page_size-size.ensures (omega (arith, c.if-size-line.false)) (omega (arith, c.if-room-size.false))
