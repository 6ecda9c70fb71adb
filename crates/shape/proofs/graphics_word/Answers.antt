use Rattle.shape.specs.Font.{graphics_word}
use Rattle.shape.proofs.graphics_word.Goals as goal

pub returns : goal.returns
unfolding graphics_word
returns c = rw c.pair_of-pair.ensures.0
