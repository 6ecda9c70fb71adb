-- Rests on head-refused and head-short for the refusals, on head-put for the two numbers.
use Rattle.std.specs.Prelude.{ℕ, List, Ok}
use Rattle.std.proofs.Common.{◌≡◌, sym, ap, ◌∙◌}
use Rattle.refusal.specs.Number.{check_of, value_or}
use Rattle.refusal.specs.Laws.{sent-on}
use Rattle.board.specs.declared.Page.{Page}
use Rattle.timing.specs.declared.PageSize.{PageSize}
use Rattle.timing.specs.Check.{size_of, no_size}
use Rattle.timing.specs.Laws.{size-refusal}
use Rattle.listing.specs.Decimal.{decimal}
use Rattle.listing.specs.Head.{Measured, head-refused, head-short, head-put}
use Rattle.listing.proofs.listing_head.Goals as goal

pub returns-in_err-size : goal.returns-in_err-size
returns-in_err-size c =
    let refused = head-refused c.args.p c.args.out.now _ c.in_err-size.ensures in
    (sent-on c.from_residual.result c.from_residual.ensures.1 ∙ refused.0, refused.1)

measured : (p : Page) (size : PageSize) (l d : List ℕ) → Ok size ≡ size_of p → l ≡ decimal size.lines.0 → d ≡ decimal size.dots.0 → Measured p size l d
measured p size l d whole lines dots = record {
  page = sym (size-refusal p) ∙ ap check_of (sym whole);
  whole = ap (value_or no_size) whole;
  lines = lines;
  dots = dots;
}

pub returns-then-out-count : goal.returns-then-out-count
returns-then-out-count c =
    let m = measured _ _ _ _ c.in_ok-size.ensures c.digits_of-lines.ensures.digits c.digits_of-dots.ensures.digits in
    head-short _ _ _ _ _ m c.if-out-count.true

pub returns : goal.returns
returns c =
    let m = measured _ _ _ _ c.in_ok-size.ensures c.digits_of-lines.ensures.digits c.digits_of-dots.ensures.digits in
    head-put _ _ _ _ _ m _ _ c.if-out-count.false c.put_number.ensures c.put_number-2.ensures
