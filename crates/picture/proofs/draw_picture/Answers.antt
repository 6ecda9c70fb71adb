-- Rests on picture-passed, from which what whole_picture asks follows, and on as-picture: it draws the picture.
use Rattle.std.specs.Prelude.{is_ok}
use Rattle.std.proofs.Common.{◌≡◌, length, sym, ap, ◌∙◌}
use Rattle.refusal.specs.Number.{unrefused}
use Rattle.refusal.specs.Laws.{sent-on}
use Rattle.shape.specs.Font.{Font, font_of}
use Rattle.video.specs.At.{lent_check}
use Rattle.picture.specs.Picture.{picture_check}
use Rattle.picture.specs.Agree.{picture-passed, as-picture, left-pictured, left_alone}
use Rattle.picture.proofs.draw_picture.Goals as goal

pub whole_picture-requires : goal.whole_picture-requires
whole_picture-requires c =
    let font : Font = font_of c.args.words.now c.args.flags.now c.args.unshifted.now c.args.shifted.now c.args.groups.now in
    let ok : picture_check c.args.b (lent_check c.args.chars.now c.args.attrs.now font) (length c.args.out.now) ≡ unrefused =
    rw c.lent_check-lent.ensures at (sym c.in_ok-picture_check.ensures) in
    picture-passed _ _ _ font _ ok

pub returns-in_err-picture_check : goal.returns-in_err-picture_check
returns-in_err-picture_check c =
    let font : Font = font_of c.args.words.now c.args.flags.now c.args.unshifted.now c.args.shifted.now c.args.groups.now in
    let refused = rw c.lent_check-lent.ensures at c.in_err-picture_check.ensures in
    (sent-on c.from_residual.result c.from_residual.ensures.1 ∙ refused, left_alone _ _ _ font c.args.field _ (ap is_ok (sym refused)))

pub returns : goal.returns
returns c =
    let font : Font = font_of c.args.words.now c.args.flags.now c.args.unshifted.now c.args.shifted.now c.args.groups.now in
    let ok : picture_check c.args.b (lent_check c.args.chars.now c.args.attrs.now font) (length c.args.out.now) ≡ unrefused =
    rw c.lent_check-lent.ensures at (sym c.in_ok-picture_check.ensures) in (
      sym ok,
      left-pictured _ _ _ font _ _ (ap is_ok ok) _
          (as-picture _ _ _ font _ _ _ _ c.font_lines-lines.ensures c.whole_picture.ensures),
    )
