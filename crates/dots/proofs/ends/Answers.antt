-- Rests on overlapped: the first bytes and the last, which overlap them.
use Rattle.dots.specs.Overlap.{overlapped}
use Rattle.dots.proofs.ends.Goals as goal

pub returns : goal.returns
returns g c =
    overlapped g.row.N _ _ _ _ _ _ c.requires.1 c.requires.2 c.requires.3 c.store.ensures c.store-2.ensures
