use borrow.Author.Tests.{lt-ltb, le-ltb}
use Rattle.shape.specs.Font.{font_word}
use Rattle.shape.proofs.font_word.Goals as goal

pub returns-then-position-lt9 : goal.returns-then-position-lt9
unfolding font_word
returns-then-position-lt9 c = simp (lt-ltb _ _ c.if-position-lt9.true)

pub returns-else-position-lt9 : goal.returns-else-position-lt9
unfolding font_word
returns-else-position-lt9 c = simp (le-ltb _ _ c.if-position-lt9.false)
