use Rattle.place.specs.Laws.{spot-row, at_zero, past-zero}
use Rattle.std.proofs.Common.{sym, ◌∙◌}
use Rattle.place.proofs.carried_before.Goals as goal

pub row_at-carried-requires : goal.row_at-carried-requires
row_at-carried-requires c = let pre = c.requires in (pre.0, pre.1, rw c.spot_before-spot.ensures (spot-row _ _ _))

pub returns-then-at_origin : goal.returns-then-at_origin
returns-then-at_origin c =
    at_zero _ c.args.chars.now c.args.attrs.now _ _ _ (sym c.at_origin.ensures ∙ c.if-at_origin.true)

pub returns : goal.returns
returns c =
    past-zero _ _ _ _ _ _ (sym c.at_origin.ensures ∙ c.if-at_origin.false) _ c.spot_before-spot.ensures _
    c.row_at-carried.ensures
