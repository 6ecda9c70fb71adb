-- Rests on what the calls ensure.
use Rattle.place.proofs.begun.Goals as goal

pub returns : goal.returns
returns c = rw (c.code_at.ensures, c.begun_latch.ensures, c.begun_at-at.ensures)
