use Rattle.std.proofs.Common.{◌∙◌}
use Rattle.units.specs.Order.{is-below}
use Rattle.timing.specs.Fields.{hfp_of}
use Rattle.timing.proofs.front_porch_refused.Goals as goal

pub returns : goal.returns
returns c = (rw c.hfp_of.ensures at c.lt.ensures) ∙ is-below (hfp_of c.args.p) 2
