use Rattle.files.specs.Page.{word_at}
use Rattle.files.proofs.word_at.Goals as goal

pub returns : goal.returns
unfolding word_at
returns c = c.from_be_bytes.ensures
