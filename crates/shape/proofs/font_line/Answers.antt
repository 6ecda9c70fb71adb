use Rattle.shape.specs.Font.{font_line_of}
use Rattle.shape.proofs.font_line.Goals as goal

pub returns : goal.returns
unfolding font_line_of
returns c = rw (c.group_at.ensures, c.places.ensures, c.position-2.ensures, c.position.ensures)
