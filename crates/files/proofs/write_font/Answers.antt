-- Rests on font-write-passed for what the callee asks, on font-write-done and font-write-kept for what is left.
use Rattle.std.specs.Prelude.{is_ok}
use Rattle.std.proofs.Common.{sym, ap, ◌∙◌}
use Rattle.refusal.specs.Laws.{sent-on}
use Rattle.shape.specs.Font.{Font, font_of}
use Rattle.files.specs.FontLaws.{font-write-passed, font-write-done, font-write-kept}
use Rattle.files.proofs.write_font.Goals as goal

pub put_font-requires : goal.put_font-requires
put_font-requires c =
    let lent : Font = font_of c.args.words.now c.args.flags.now c.args.unshifted.now c.args.shifted.now c.args.groups.now in
    font-write-passed lent _ (sym c.in_ok-font_write_check.ensures)

pub returns-in_err-font_write_check : goal.returns-in_err-font_write_check
returns-in_err-font_write_check c =
    let lent : Font = font_of c.args.words.now c.args.flags.now c.args.unshifted.now c.args.shifted.now c.args.groups.now in
    let refused = c.in_err-font_write_check.ensures in
    (sent-on c.from_residual.result c.from_residual.ensures.1 ∙ refused, font-write-kept lent c.args.out.now (ap is_ok (sym refused)))

pub returns : goal.returns
returns c =
    let lent : Font = font_of c.args.words.now c.args.flags.now c.args.unshifted.now c.args.shifted.now c.args.groups.now in
    let ok = c.in_ok-font_write_check.ensures in
    (ok, font-write-done lent c.args.out.now (ap is_ok (sym ok)) c.put_font.ensures)
