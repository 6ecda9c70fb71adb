use Rattle.callers.specs.Texts.{calls-agree}
use Rattle.callers.proofs.texts.cells_agree.Goals as goal

pub returns : goal.returns
returns c =
    calls-agree _ _ _ c.feldrime_row_cells-given.ensures.0 c.feldrime_row_run-run.ensures
