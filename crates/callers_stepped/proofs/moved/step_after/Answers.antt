use Rattle.callers_stepped.specs.Moved.{stepped-after}
use Rattle.callers_stepped.proofs.moved.step_after.Goals as goal

pub returns : goal.returns
returns c =
    stepped-after _ _ _ _ _ _ _ _ _ c.feldrime_board_of-made.ensures c.stepped_to-reached.ensures c.step_numbers-s.ensures
