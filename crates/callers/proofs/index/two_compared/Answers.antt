use mathlib.Core.Path.{◌∙◌}
use Rattle.callers.specs.Index.{two-told}
use Rattle.callers.proofs.index.two_compared.Goals as goal

pub returns : goal.returns
returns c = c.records_differ.ensures ∙ two-told _ _
