-- Rests on font-put: the parts one behind the other.
use Rattle.shape.specs.Font.{Font, font_of}
use mathlib.Core.Path.{ap, ◌∙◌}
use Rattle.files.specs.FontFile.{font_head}
use Rattle.files.specs.FontLaws.{font-put}
use Rattle.files.proofs.put_font.Goals as goal

pub returns : goal.returns
returns c =
    let lent : Font = font_of c.args.words.now c.args.flags.now c.args.unshifted.now c.args.shifted.now c.args.groups.now in
    font-put lent c.requires.0 c.args.out.now (c.font_head-head.ensures ∙ ap font_head c.font_version.ensures)
    c.put.ensures c.put_words.ensures c.put-2.ensures c.put-3.ensures c.put-4.ensures c.put-5.ensures
