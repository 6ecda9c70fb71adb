-- Rests on not-room and not_saved for the refusals; else on the page that was put.
use Rattle.std.specs.Prelude.{is_ok}
use Rattle.std.proofs.Common.{sym, ap, ◌∙◌, rules}
use Rattle.refusal.specs.Laws.{sent-on}
use Rattle.timing.specs.Laws.{accepted}
use Rattle.numbers.specs.Laws.{page-put, not-room, saved, not_saved}
use Rattle.numbers.proofs.numbers_of.Goals as goal

pub returns-then-numbers-ne32 : goal.returns-then-numbers-ne32
returns-then-numbers-ne32 c = let args = c.args in not-room args.b args.numbers.now c.if-numbers-ne32.true

pub put_own-requires : goal.put_own-requires
put_own-requires c = ((accepted c.args.b.page (sym c.in_ok-page_check.ensures)).most, search rules)

pub returns-in_err-page_check : goal.returns-in_err-page_check
returns-in_err-page_check c =
    let refused = c.in_err-page_check.ensures in
    not_saved c.args.b c.args.numbers.now c.if-numbers-ne32.false (sent-on c.from_residual.result c.from_residual.ensures.1 ∙ refused) (ap is_ok (sym refused))

pub returns : goal.returns
returns c =
    let ok = c.in_ok-page_check.ensures in
    saved c.args.b c.args.numbers.now c.if-numbers-ne32.false ok (ap is_ok (sym ok))
    (page-put c.args.b.page c.clear.ensures c.put_own.ensures)
