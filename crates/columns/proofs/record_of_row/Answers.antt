use Rattle.std.proofs.Common.{ap, ◌∙◌}
use Rattle.records.specs.Ends.{asked_by}
use Rattle.records.specs.Folds.{search_of}
use Rattle.phrases.specs.Laws.{row-held}
use Rattle.columns.proofs.record_of_row.Goals as goal

pub returns : goal.returns
returns c =
    c.search_in.ensures ∙ ap (search_of _) (c.from.ensures ∙ ap asked_by c.row_asked-asked.ensures) ∙ row-held _ _ _ _
