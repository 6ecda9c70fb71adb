-- Rests on loaded-first, loaded-again and loaded_on: a row begins, a line of it begins, or neither.
use Rattle.place.specs.Laws.{loads-row, loaded-first, loaded-again, loaded_on}
use Rattle.std.proofs.Common.{sym, ◌∙◌}
use Rattle.place.proofs.loaded_at.Goals as goal

pub begun-first-requires : goal.begun-first-requires
begun-first-requires c = (
  c.requires,
  rw c.row_of.ensures (loads-row c.args.p c.args.chars.now c.args.q (sym c.loads_at.ensures ∙ c.if-loads_at.true)),
)

pub returns-then-eq : goal.returns-then-eq
returns-then-eq c =
    loaded-first _ _ _ (sym c.loads_at.ensures ∙ c.if-loads_at.true)
    (sym (c.eq.ensures ∙ rw c.line_of_row.ensures) ∙ c.if-eq.true) _
    (c.begun-first.ensures ∙ rw (c.row_of.ensures, c.settled-held.ensures))

pub returns-then-loads_at : goal.returns-then-loads_at
returns-then-loads_at c =
    loaded-again _ c.args.chars.now _ (sym c.loads_at.ensures ∙ c.if-loads_at.true)
    (sym (c.eq.ensures ∙ rw c.line_of_row.ensures) ∙ c.if-eq.false) _ c.settled-row.ensures

pub returns : goal.returns
returns c =
    loaded_on _ c.args.chars.now _ (sym c.loads_at.ensures ∙ c.if-loads_at.false) _ _ c.settled-held.ensures
    c.settled-row.ensures
