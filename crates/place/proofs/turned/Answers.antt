-- Rests on turned-clock, turned-line and turned-frame, one for each way to move on.
use Rattle.units.specs.Order.{if-below}
use Rattle.place.specs.Laws.{turned-clock, turned-line, turned-frame}
use Rattle.place.proofs.turned.Goals as goal

pub returns-then-lt : goal.returns-then-lt
returns-then-lt c =
    turned-clock _ _ _ _ c.timing_of-t.ensures _
    c.plus-clock.ensures _ c.plus-below.ensures (if-below _ _ c.lt.ensures c.if-lt.true)

pub returns-then-lt-2 : goal.returns-then-lt-2
returns-then-lt-2 c =
    turned-line _ _ _ _ c.timing_of-t.ensures _
    c.plus-clock.ensures _ c.plus-below.ensures
    (if-below _ _ c.lt.ensures c.if-lt.false) (if-below _ _ c.lt-2.ensures c.if-lt-2.true)

pub returns : goal.returns
returns c =
    turned-frame _ _ _ _ c.timing_of-t.ensures _
    c.plus-clock.ensures _ c.plus-below.ensures
    (if-below _ _ c.lt.ensures c.if-lt.false)
    (if-below _ _ c.lt-2.ensures c.if-lt-2.false) _ c.wrapping_add_u8.ensures.value
