-- Rests on draw-passed, from which what whole_line asks follows, and on as_line: it draws the line.
use Rattle.std.specs.Prelude.{is_ok}
use Rattle.std.proofs.Common.{◌≡◌, length, sym, ap, ◌∙◌}
use Rattle.refusal.specs.Number.{unrefused}
use Rattle.refusal.specs.Laws.{sent-on}
use Rattle.shape.specs.Font.{Font, font_of}
use Rattle.video.specs.At.{lent_check}
use Rattle.line.specs.Line.{draw_check}
use Rattle.line.specs.Walk.{as_line, draw-passed, left-drawn, left_alone}
use Rattle.line.proofs.draw_line.Goals as goal
use Rattle.line.proofs.draw_line.Goals.{In_ok-draw_check}

-- the check passes what is lent and the line
module _ (c : In_ok-draw_check) where
  abbrev lent : Font
  lent = font_of c.args.words.now c.args.flags.now c.args.unshifted.now c.args.shifted.now c.args.groups.now

  passes : draw_check c.args.b (lent_check c.args.chars.now c.args.attrs.now lent) c.args.line.0 (length c.args.out.now) ≡ unrefused
  passes = rw c.lent_check-lent.ensures at (sym c.in_ok-draw_check.ensures)

pub scan_for-scan-requires : goal.scan_for-scan-requires
scan_for-scan-requires c =
    let passed = (goal.at.scan_for-scan-requires c).In_ok-draw_check in
    let p = draw-passed _ _ _ (lent passed) _ _ (passes passed) in
    (p.0.chars-all, p.1)

pub whole_line-requires : goal.whole_line-requires
whole_line-requires c =
    let passed = (goal.at.whole_line-requires c).In_ok-draw_check in
    let p = draw-passed _ _ _ (lent passed) _ _ (passes passed) in
    record { lent = p.0; scan_value = (c.scan_for-scan.ensures, p.1, p.2) }

pub returns-in_err-draw_check : goal.returns-in_err-draw_check
returns-in_err-draw_check c =
    let font : Font = font_of c.args.words.now c.args.flags.now c.args.unshifted.now c.args.shifted.now c.args.groups.now in
    let refused = rw c.lent_check-lent.ensures at c.in_err-draw_check.ensures in
    (sent-on c.from_residual.result c.from_residual.ensures.1 ∙ refused, left_alone _ _ _ font _ c.args.field _ (ap is_ok (sym refused)))

pub returns : goal.returns
returns c =
    let passed = (goal.at.returns c).In_ok-draw_check in
    let ok = passes passed in (
      sym ok,
      left-drawn _ _ _ (lent passed) _ _ _ (ap is_ok ok) _
          (as_line _ _ _ (lent passed) _ _ _ _ _ _ c.scan_for-scan.ensures c.font_line-font.ensures c.whole_line.ensures),
    )
