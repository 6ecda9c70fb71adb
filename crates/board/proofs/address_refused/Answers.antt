use Rattle.board.specs.Range.{address_refused}
use Rattle.board.proofs.address_refused.Goals as goal

pub returns : goal.returns
unfolding address_refused
returns c = rw (c.video_refused.ensures, c.switches_refused.ensures, c.starts_refused.ensures)
