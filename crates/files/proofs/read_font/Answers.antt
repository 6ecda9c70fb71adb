-- Rests on font-passed for what the callees ask, on font-done and font-kept for what is left.
use Rattle.std.specs.Prelude.{is_ok}
use Rattle.std.proofs.Common.{◌≡◌, ℕ, take, drop, sym, ap, ◌∙◌, arith}
use Rattle.refusal.specs.Number.{unrefused}
use Rattle.refusal.specs.Laws.{sent-on}
use Rattle.shape.specs.Font.{Font, font_of}
use Rattle.copies.specs.Put.{length_part}
use Rattle.files.specs.FontFile.{font_short, font_check}
use Rattle.files.specs.FontLaws.{FontTaken, font-least, font-passed, font-done, font-kept}
use Rattle.files.proofs.read_font.Goals as goal
use Rattle.files.proofs.read_font.Goals.{In_ok-font_check}

-- the check passes the file and the five parts, and what that says
module _ (c : In_ok-font_check) where
  abbrev lent : Font
  lent = font_of c.args.words.now c.args.flags.now c.args.unshifted.now c.args.shifted.now c.args.groups.now

  passes : font_check c.args.file.now (font_short c.args.file.now lent) ≡ unrefused
  passes = rw (c.font_refused.ensures, c.version_in.ensures) at (sym c.in_ok-font_check.ensures)

  taken : FontTaken c.args.file.now lent
  taken = font-passed _ _ passes

pub slice_bounds-read_words-end : goal.slice_bounds-read_words-end
slice_bounds-read_words-end c = omega (arith, font-least _ (taken (goal.at.slice_bounds-read_words-end c).In_ok-font_check).file-all)

pub read_words-requires : goal.read_words-requires
read_words-requires c =
    let fits = taken (goal.at.read_words-requires c).In_ok-font_check in
    omega (arith, length_part c.args.file.now 5 2304 (omega (arith, font-least _ fits.file-all)), fits.whole.words-all)

pub take_from-requires : goal.take_from-requires
take_from-requires c =
    let fits = taken (goal.at.take_from-requires c).In_ok-font_check in
    omega (arith, font-least _ fits.file-all, fits.whole.flags-all)

pub take_from-requires-2 : goal.take_from-requires-2
take_from-requires-2 c =
    let fits = taken (goal.at.take_from-requires-2 c).In_ok-font_check in
    omega (arith, font-least _ fits.file-all, fits.whole.unshifted-all)

pub take_from-requires-3 : goal.take_from-requires-3
take_from-requires-3 c =
    let fits = taken (goal.at.take_from-requires-3 c).In_ok-font_check in
    omega (arith, font-least _ fits.file-all, fits.whole.shifted-all)

pub read_groups-requires : goal.read_groups-requires
read_groups-requires c v =
    let fits = taken (goal.at.read_groups-requires c).In_ok-font_check in
    (omega (arith, rw v at fits.file-all), fits.groups-room v)

pub returns-in_err-font_check : goal.returns-in_err-font_check
returns-in_err-font_check c =
    let was : Font = font_of c.args.words.now c.args.flags.now c.args.unshifted.now c.args.shifted.now c.args.groups.now in
    let refused = rw (c.font_refused.ensures, c.version_in.ensures) at c.in_err-font_check.ensures in
    (sent-on c.from_residual.result c.from_residual.ensures.1 ∙ refused, font-kept _ was (ap is_ok (sym refused)))

pub returns : goal.returns
returns c =
    let passed = (goal.at.returns c).In_ok-font_check in
    let whole = (taken passed).whole in
    let file = c.args.file.now in (
      sym (passes passed),
      font-done file (lent passed) (ap is_ok (passes passed)) whole _ c.read_words.ensures _ _ _ _
          (c.take_from.ensures ∙ ap (λ (n : ℕ). take n (drop 2309 file)) whole.flags-all)
          (c.take_from-2.ensures ∙ ap (λ (n : ℕ). take n (drop 2437 file)) whole.unshifted-all)
          (c.take_from-3.ensures ∙ ap (λ (n : ℕ). take n (drop 2446 file)) whole.shifted-all)
          c.read_groups.ensures,
    )
