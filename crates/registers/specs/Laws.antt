-- What a proof of the register calls uses of their checks. Assumes nothing.
use Rattle.std.specs.Prelude.{◌≤◌, ◌≡◌, refl, Err}
use Rattle.std.proofs.Common.{ltb-false}
use Rattle.refusal.specs.Number.{unrefused}
use Rattle.refusal.specs.declared.Refusal.TheVariants.{Range, Address}
use Rattle.refusal.specs.Laws.{passed}
use Rattle.board.specs.declared.Board.{Board}
use Rattle.board.specs.Layout.{last_ir}
use Rattle.board.specs.Range.{address_refused, pointer_refused}
use Rattle.registers.specs.Write.{register_check}

-- a board that passes has its pointer at an IR of its page
pub pointer_in : (b : Board) → register_check b ≡ unrefused → b.pointer ≤ last_ir b.page.version
unfolding register_check
pointer_in b e =
    let a = passed (address_refused b.page) (Err Address) _ refl e in
    let p = passed (pointer_refused b.page b.pointer) (Err Range) _ refl a.1 in
    ltb-false _ _ p.0
