use mathlib.Core.Path.{◌∙◌}
use Rattle.callers.specs.Index.{all_held_lem}
use Rattle.callers.proofs.index.all_held.Goals as goal

pub returns : goal.returns
returns c = c.record_of_row.ensures ∙ all_held_lem _ _ _ _ _
