use mathlib.Core.Path.{◌∙◌, ap₂}
use mathlib.Core.Bool.{Bool, ◌&&◌}
use Rattle.units.specs.Order.{is-below}
use Rattle.timing.specs.Fields.{timing_of, counts_of, visible_of, hact_of}
use Rattle.place.proofs.active_at.Goals as goal

pub returns : goal.returns
unfolding timing_of counts_of
returns c =
    ap₂ (λ (s t : Bool). s && t)
    ((rw c.visible_of.ensures at c.lt.ensures) ∙ is-below c.args.q.line.0 (visible_of c.args.p).0)
    ((rw c.timing_of-t.ensures at c.lt-2.ensures) ∙ is-below c.args.q.clock.0 (hact_of c.args.p))
