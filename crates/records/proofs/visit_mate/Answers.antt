use Rattle.std.proofs.Common.{sym, ◌∙◌}
use Rattle.records.specs.Folds.{mate-on}
use Rattle.records.proofs.visit_mate.Goals as goal

pub returns-then-label : goal.returns-then-label
returns-then-label c = mate-on _ _ _ _ (λ e. c.if-label.true (c.label.ensures ∙ e ∙ sym c.label-2.ensures))
