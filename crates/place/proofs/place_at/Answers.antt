-- Rests on place_at: clock, line and frame are the quotients and remainders of n.
use Rattle.place.specs.Laws.{place_at_lem}
use Rattle.timing.specs.Decoded.{ht-pos, vt-pos}
use Rattle.place.proofs.place_at.Goals as goal

pub remainder-clock-requires : goal.remainder-clock-requires
remainder-clock-requires c = ht-pos _ _ c.timing_of-t.ensures

pub whole_lines-lines-requires : goal.whole_lines-lines-requires
whole_lines-lines-requires c = ht-pos _ _ c.timing_of-t.ensures

pub remainder-line-requires : goal.remainder-line-requires
remainder-line-requires c = vt-pos _ _ c.timing_of-t.ensures

pub quotient-frame-requires : goal.quotient-frame-requires
quotient-frame-requires c = vt-pos _ _ c.timing_of-t.ensures

pub returns : goal.returns
returns c =
    place_at_lem _ _ _ _ _ c.timing_of-t.ensures _
    c.whole_lines-lines.ensures _ c.remainder-clock.ensures _
    c.remainder-line.ensures _ c.quotient-frame.ensures _
    c.carried_before-c.ensures
