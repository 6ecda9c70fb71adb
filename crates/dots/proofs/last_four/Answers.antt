-- Rests on last-put: the last four dots, put over the end, with the cell in front of them.
use borrow.Author.Rules.{rules}
use Rattle.dots.specs.Last.{four-ones, four-shades, last-put}
use Rattle.dots.proofs.last_four.Goals as goal

pub mix-last-requires : goal.mix-last-requires
mix-last-requires c = rw c.nibble.ensures (four-ones _)

pub returns : goal.returns
returns c =
    last-put c.args.symbol c.args.surround c.args.d _ _ c.args.out.now _ c.requires.0 c.requires.2
    (four-shades _ _ (search rules) (search rules) _ _ (rw c.nibble.ensures at c.mix-last.ensures))
    c.store.ensures
