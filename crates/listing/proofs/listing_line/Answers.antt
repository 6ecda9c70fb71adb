-- Rests on line_refused for the refusals, on line-put for the line drawn and marked.
use Rattle.std.proofs.Common.{refl, ◌∙◌}
use Rattle.refusal.specs.Laws.{sent-on}
use Rattle.shape.specs.Font.{Font, font_of}
use Rattle.listing.specs.Line.{line_refused, line-sized, line-fits, line-put}
use Rattle.listing.proofs.listing_line.Goals as goal

pub returns-in_err-draw_line : goal.returns-in_err-draw_line
returns-in_err-draw_line c =
    let font : Font = font_of c.args.words.now c.args.flags.now c.args.unshifted.now c.args.shifted.now c.args.groups.now in
    let refused = line_refused _ _ _ font _ c.args.field _ _ c.room_for_dots-room.ensures _ _ c.in_err-draw_line.ensures _ refl in
    (sent-on c.from_residual.result c.from_residual.ensures.1 ∙ refused.0, refused.1)

pub returns-in_err-page_size : goal.returns-in_err-page_size
returns-in_err-page_size c =
    let font : Font = font_of c.args.words.now c.args.flags.now c.args.unshifted.now c.args.shifted.now c.args.groups.now in
    absurd (line-sized _ _ _ font _ c.args.field _ _ c.room_for_dots-room.ensures _ _ c.in_ok-draw_line.ensures refl c.in_err-page_size.ensures)

pub finish_line-requires : goal.finish_line-requires
finish_line-requires c =
    let font : Font = font_of c.args.words.now c.args.flags.now c.args.unshifted.now c.args.shifted.now c.args.groups.now in
    rw c.places-n.ensures
    (line-fits _ _ _ font _ c.args.field _ _ c.room_for_dots-room.ensures _ _ c.in_ok-draw_line.ensures refl _ c.in_ok-page_size.ensures)

pub returns : goal.returns
returns c =
    let font : Font = font_of c.args.words.now c.args.flags.now c.args.unshifted.now c.args.shifted.now c.args.groups.now in
    rw c.places-n.ensures
    (line-put _ _ _ font _ _ _ _ c.room_for_dots-room.ensures _ _ c.in_ok-draw_line.ensures refl
    _ c.in_ok-page_size.ensures _ (rw c.places-n.ensures at c.finish_line.ensures))
