use Rattle.std.proofs.Common.{sym, ◌∙◌}
use Rattle.columns.specs.Laws.{records-length}
use Rattle.columns.proofs.ColumnsIndex.count.Goals as goal

pub returns : goal.returns
returns c = c.min.ensures ∙ rw (c.min-labels.ensures, c.min-cells.ensures) (sym (records-length _ _ _ _))
