use Rattle.place.specs.Laws.{moved-active, moved-held}
use Rattle.std.proofs.Common.{sym, ◌∙◌}
use Rattle.place.proofs.moved_on.Goals as goal

pub returns-then-active_at : goal.returns-then-active_at
returns-then-active_at c = moved-active _ _ _ _ (sym c.active_at.ensures ∙ c.if-active_at.true) _ c.past_cell.ensures

pub returns : goal.returns
returns c = moved-held _ c.args.attrs.now _ _ (sym c.active_at.ensures ∙ c.if-active_at.false)
