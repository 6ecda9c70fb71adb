-- Rests on the contracts of both calls, by `set_last`.
use Rattle.callers_registers.specs.Videos.{set_last}
use Rattle.callers_registers.proofs.videos.set_twice.Goals as goal

pub returns : goal.returns
returns c = set_last _ _ _ _ _ _ _ _ _ c.feldrime_set_video-once.ensures c.feldrime_set_video.ensures
