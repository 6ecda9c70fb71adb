use Rattle.step.specs.Laws.{stepped}
use Rattle.step.proofs.step.Goals as goal

pub returns : goal.returns
returns c = stepped _ _ _ _ _ c.clock_of-c.ensures _ c.with_place.ensures
