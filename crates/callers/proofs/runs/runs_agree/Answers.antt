use Rattle.callers.specs.Runs.{runs_same}
use Rattle.callers.proofs.runs.runs_agree.Goals as goal

pub returns : goal.returns
returns c =
    runs_same _ _ _ c.feldrime_row_run-asked.ensures c.feldrime_board_of-made.ensures c.if-made-ne0.false c.row_run-part.ensures.0 c.row_run-part.ensures.3
