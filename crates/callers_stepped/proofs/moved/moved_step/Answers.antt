-- Rests on table-stepped and sheet-stepped.
use Rattle.callers_stepped.specs.Moved.{table-stepped, sheet-stepped}
use Rattle.callers_stepped.proofs.moved.moved_step.Goals as goal

pub returns-then-there : goal.returns-then-there
returns-then-there c =
    table-stepped _ _ _ _ _ _ _ _ _ c.feldrime_to_table.ensures.1 c.feldrime_to_table.ensures.2 c.step_after.ensures

pub returns : goal.returns
returns c =
    sheet-stepped _ _ _ _ _ _ _ _ _ c.feldrime_to_sheet.ensures.1 c.step_after-2.ensures
