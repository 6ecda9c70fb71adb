use Rattle.callers.specs.Texts.{text-begins}
use Rattle.callers.proofs.texts.text_begins.Goals as goal

pub returns : goal.returns
returns c room = text-begins _ _ _ _ room c.run_taken.ensures.0 c.row_text.ensures
