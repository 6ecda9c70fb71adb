-- Rests on board-refused and board-again.
use mathlib.Core.Path.{◌≡◌}
use borrow.Author.Rules.{rules}
use lib.ListN.{length}
use Rattle.callers.specs.Saved.{board-refused, board-again}
use Rattle.callers.proofs.saved.saved_again.Goals as goal

pub returns-then-saved-ne0 : goal.returns-then-saved-ne0
returns-then-saved-ne0 c =
    let irs-all : length c.args.b.page.irs ≡ 15 = search rules in
    board-refused c.args.b irs-all c.feldrime_numbers_of-saved.ensures c.if-saved-ne0.true c.feldrime_power.ensures

pub returns : goal.returns
returns c =
    let irs-all : length c.args.b.page.irs ≡ 15 = search rules in
    board-again c.args.b irs-all c.feldrime_numbers_of-saved.ensures c.if-saved-ne0.false c.feldrime_board_of.ensures
