-- Rests on row-held: at what a row asks, the search gives the record of the row.
use Rattle.std.proofs.Common.{ap, ◌∙◌}
use Rattle.records.specs.Ends.{asked_by}
use Rattle.records.specs.Folds.{search_of}
use Rattle.phrases.specs.Laws.{row-held}
use Rattle.phrases.proofs.phrase_of_row.Goals as goal

pub returns : goal.returns
returns c =
    c.search.ensures ∙ ap (search_of c.args.phrases.now) (c.from.ensures ∙ ap asked_by c.row_asked-asked.ensures) ∙ row-held _ _ _ _
