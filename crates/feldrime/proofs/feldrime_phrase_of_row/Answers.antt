-- Rests on numbers-held: at what the numbers ask, the search gives the phrase that the contract cites.
use Rattle.std.proofs.Common.{ap, ◌∙◌}
use Rattle.records.specs.Ends.{asked_by}
use Rattle.records.specs.Folds.{search_of}
use Rattle.feldrime.specs.Phrases.{numbers-held}
use Rattle.feldrime.proofs.feldrime_phrase_of_row.Goals as goal

pub returns : goal.returns
returns c =
    c.search.ensures ∙ ap (search_of c.args.phrases.now) (c.from.ensures ∙ ap asked_by c.numbers_asked-asked.ensures) ∙ numbers-held _ _ _ _
