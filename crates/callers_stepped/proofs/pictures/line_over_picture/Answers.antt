-- Rests on place_in: the line that is drawn stood at its place already.
use Prim.Native.Nat.{◌+◌, ◌*◌, ◌≤◌}
use mathlib.Core.Path.{◌≡◌, sym, ap, ◌∙◌}
use native.Mathlib.Omega.{arith}
use lib.ListN.{length}
use Rattle.shape.specs.Font.{Font, font_of}
use Rattle.line.specs.Line.{line_length}
use Rattle.numbers.specs.Numbers.{numbers_board}
use Rattle.feldrime.specs.declared.Answer.{Answer}
use Rattle.feldrime.specs.Answers.{answer_of}
use Rattle.feldrime.specs.PictureDraw.{picture_draw_check}
use Rattle.callers_stepped.specs.Pictures.{place_in, stays}
use Rattle.callers_stepped.proofs.pictures.line_over_picture.Goals as goal

pub slice_bounds-feldrime_line_draw-count : goal.slice_bounds-feldrime_line_draw-count
slice_bounds-feldrime_line_draw-count c =
    let font : Font = font_of c.args.words.now c.args.flags.now c.args.unshifted.now c.args.shifted.now c.args.groups.now in
    let drawn : (answer_of (picture_draw_check c.args.numbers.now c.args.chars.now c.args.attrs.now font (length c.args.out.now))).refusal ≡ 0 = sym (ap (λ (a : Answer). a.refusal) c.feldrime_picture_draw-drawn.ensures.0) ∙ c.if-drawn-ne0.false in
    let inside : c.args.line * c.feldrime_page_size-size.result.dots + line_length (numbers_board c.args.numbers.now) ≤ length c.args.out.now = place_in _ _ _ _ _ _ _ _ c.args.field c.args.out.now drawn _ c.feldrime_page_size-size.ensures _ c.if-line-size.true in
    omega (arith, inside)

pub slice_bounds-feldrime_line_draw-start : goal.slice_bounds-feldrime_line_draw-start
slice_bounds-feldrime_line_draw-start c =
    let font : Font = font_of c.args.words.now c.args.flags.now c.args.unshifted.now c.args.shifted.now c.args.groups.now in
    let drawn : (answer_of (picture_draw_check c.args.numbers.now c.args.chars.now c.args.attrs.now font (length c.args.out.now))).refusal ≡ 0 = sym (ap (λ (a : Answer). a.refusal) c.feldrime_picture_draw-drawn.ensures.0) ∙ c.if-drawn-ne0.false in
    let inside : c.args.line * c.feldrime_page_size-size.result.dots + line_length (numbers_board c.args.numbers.now) ≤ length c.args.out.now = place_in _ _ _ _ _ _ _ _ c.args.field c.args.out.now drawn _ c.feldrime_page_size-size.ensures _ c.if-line-size.true in
    omega (arith, inside)

pub returns-then-line-size : goal.returns-then-line-size
returns-then-line-size c =
    let font : Font = font_of c.args.words.now c.args.flags.now c.args.unshifted.now c.args.shifted.now c.args.groups.now in
    let drawn : (answer_of (picture_draw_check c.args.numbers.now c.args.chars.now c.args.attrs.now font (length c.args.out.now))).refusal ≡ 0 = sym (ap (λ (a : Answer). a.refusal) c.feldrime_picture_draw-drawn.ensures.0) ∙ c.if-drawn-ne0.false in
    let picture = c.feldrime_picture_draw-drawn in (
      picture.ensures.0,
      stays _ _ _ _ _ _ _ _ c.args.field c.args.out.now drawn _ c.feldrime_page_size-size.ensures _ c.if-line-size.true _ _ picture.ensures.1 c.feldrime_line_draw.ensures.1,
    )
