-- Rests on in_frame: the counts of the place are in range, so each callee is asked for what it takes.
use Rattle.step.specs.Laws.{in_frame, address-lt, shown-small, clock-parts}
use Rattle.step.proofs.one_clock.Goals as goal

pub place_after-next-requires : goal.place_after-next-requires
place_after-next-requires c =
    let whole = c.requires.lent in
    let frame = in_frame c.args.b whole.state in
    (whole.attrs-all, address-lt _ _ whole.page whole.state _ c.requires.c_value.0, frame.0, frame.1)

pub shown_in-shown-requires : goal.shown_in-shown-requires
shown_in-shown-requires c =
    let whole = c.requires.lent in
    (whole, address-lt _ _ whole.page whole.state _ c.requires.c_value.0, c.requires.c_value.1)

pub column_dots-requires : goal.column_dots-requires
column_dots-requires c =
    let page = c.requires.lent.page in
    (page.least, page.most, rw c.shown_in-shown.ensures (shown-small _ _ _ _ _ _ _ _ _))

pub returns : goal.returns
returns c =
    clock-parts _ _ _ _ _ _ _ c.requires.c_value.0 _ c.place_after-next.ensures _ c.shown_in-shown.ensures _
    c.signals_of.ensures _ (rw (c.is_wide.ensures, c.from.ensures, c.requires.c_value.1) at c.column_dots.ensures)
