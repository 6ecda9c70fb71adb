-- Rests on what the calls ensure, and on the two choices.
use Rattle.std.proofs.Common.{◌≡◌, refl}
use Rattle.lists.specs.Choice.{pick}
use Rattle.registers.proofs.with_video.Goals.{then-rblank, else-rblank, then-bkgnd, else-bkgnd}
use Rattle.registers.proofs.with_video.Goals as goal

pub returns : goal.returns
returns c =
    let background : c.if-bkgnd.background ≡ pick c.args.bkgnd 4 0 =
    elim c.if-bkgnd.branch [ then-bkgnd w ↦ rw (w.background-is, w.if-bkgnd.true) | else-bkgnd w ↦ rw (w.background-is, w.if-bkgnd.false) ] in
    let retrace : c.if-rblank.retrace ≡ pick c.args.rblank 8 0 =
    elim c.if-rblank.branch [ then-rblank w ↦ rw (w.retrace-is, w.if-rblank.true) | else-rblank w ↦ rw (w.retrace-is, w.if-rblank.false) ] in
    rw (c.with_dots.ensures, retrace, background) refl
