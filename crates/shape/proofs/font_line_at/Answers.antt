use Rattle.shape.specs.Font.{font_line_at}
use Rattle.shape.proofs.font_line_at.Goals as goal

pub returns : goal.returns
unfolding font_line_at
returns c = rw c.places.ensures
