-- Rests on state-whole: what place_at asks follows from the check.
use Rattle.std.proofs.Common.{◌≡◌, sym}
use Rattle.refusal.specs.Number.{unrefused}
use Rattle.place.specs.State.{state_check}
use Rattle.place.specs.Laws.{state-whole}
use Rattle.place.proofs.state_at.Goals as goal

pub place_at-place-requires : goal.place_at-place-requires
place_at-place-requires c =
    let ok : state_check c.args.b c.args.chars.now c.args.attrs.now ≡ unrefused =
    rw (c.wrong_size.ensures, c.memories_refused-size.ensures) at (sym c.in_ok-call_check.ensures) in
    state-whole c.args.b c.args.chars.now c.args.attrs.now ok
