-- Rests on Index.own-number where the row is refused, and on Index.same-bad where it is not.
use Rattle.std.proofs.Common.{sym, ap, ◌∙◌}
use Rattle.std.specs.Prelude.{Err}
use Rattle.std.proofs.lemmas.Bool.{eqb-false}
use Rattle.refusal.specs.Number.{check_of, number_of, beside_of}
use Rattle.refusal.specs.Laws.{number-ok}
use Rattle.fetch.specs.Laws.{span-number}
use Rattle.callers.specs.Index.{own-number, same-bad}
use Rattle.callers.proofs.index.refused_alike.Goals as goal

pub returns-in-Err : goal.returns-in-Err
returns-in-Err c =
    let own = ap check_of (rw c.in-Err.is at c.span_of.ensures.0) ∙ span-number c.args.b c.args.chars.now c.args.row in
    own-number _ _ _ _ c.record_of_row-one.ensures (c.number-number.ensures ∙ ap number_of own) (c.beside-beside.ensures ∙ ap beside_of own)
    (λ z. eqb-false _ _ (number-ok (Err c.in-Err.why)) (sym c.number-number.ensures ∙ z))

pub returns : goal.returns
returns c =
    let own = ap check_of (rw c.in_default.is at c.span_of.ensures.0) ∙ span-number c.args.b c.args.chars.now c.args.row in
    same-bad _ _ _ _ c.record_of_row-one.ensures c.records_differ-two.ensures (ap number_of (sym own))
