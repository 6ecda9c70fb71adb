use mathlib.Core.Path.{◌∙◌}
use Rattle.files.specs.File.{write_check}
use Rattle.files.proofs.write_check.Goals as goal

pub returns : goal.returns
unfolding write_check
returns c = c.call_check.ensures ∙ rw (c.wrong_size.ensures, c.memories_refused.ensures, c.file_size.ensures)
