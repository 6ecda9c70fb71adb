use mathlib.Core.Path.{◌∙◌}
use Rattle.timing.specs.Fields.{timing_of, counts_of}
use Rattle.fetch.proofs.row_check.Goals as goal

pub returns : goal.returns
unfolding timing_of counts_of
returns c = c.call_check.ensures ∙ rw (c.wrong_size.ensures, c.timing_of-t.ensures)
