use mathlib.Core.Path.{ap, ◌∙◌}
use Rattle.video.specs.declared.TableLine.{TableLine}
use Rattle.video.specs.Table.{by-rule}
use Rattle.video.proofs.blank_level.Goals as goal

pub returns : goal.returns
returns c = ap (λ (l : TableLine). l.symbol) c.table_1-found.ensures ∙ (by-rule _).0
