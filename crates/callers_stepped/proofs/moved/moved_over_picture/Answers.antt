-- Rests on moved-drawn: a move, refused or not, leaves the picture.
use Rattle.callers_stepped.specs.Moved.{moved-drawn}
use Rattle.callers_stepped.proofs.moved.moved_over_picture.Goals as goal

pub returns : goal.returns
returns c =
    moved-drawn c.args.numbers.now c.args.chars.now c.args.attrs.now c.args.words.now c.args.flags.now c.args.unshifted.now c.args.shifted.now c.args.groups.now
    c.args.field c.args.out.now c.feldrime_to_table.ensures.1 c.feldrime_to_table.ensures.2 c.feldrime_picture_draw.ensures.1
    c.feldrime_to_sheet.ensures.1 c.feldrime_picture_draw-2.ensures.0 c.feldrime_picture_draw-2.ensures.1
