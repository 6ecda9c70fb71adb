use Rattle.callers_registers.specs.Videos.{same-video}
use Rattle.callers_registers.proofs.videos.same_video.Goals as goal

pub returns : goal.returns
returns c = same-video _ c.feldrime_set_video.ensures
