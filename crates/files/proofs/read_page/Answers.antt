-- Rests on read-passed for what the callees ask, on read_done and read-refused for what is left.
use Rattle.std.specs.Prelude.{is_ok}
use Rattle.std.proofs.Common.{◌≡◌, ℕ, ◌+◌, length, take, drop, sym, ap, ap₂, ◌∙◌, arith}
use Rattle.refusal.specs.Number.{unrefused}
use Rattle.refusal.specs.Laws.{sent-on}
use Rattle.board.specs.Range.{memories_refused}
use Rattle.board.specs.Laws.{layout-fits}
use Rattle.files.specs.Page.{version_in}
use Rattle.files.specs.File.{read_check}
use Rattle.files.specs.Laws.{Taken, read-passed, read_done, read-refused, read-why}
use Rattle.files.proofs.read_page.Goals as goal
use Rattle.files.proofs.read_page.Goals.{In_ok-read_check}

-- the check passes the file and the memories, and what that says
module _ (c : In_ok-read_check) where
  passes : read_check c.args.file.now (memories_refused (length c.args.chars.now) (length c.args.attrs.now)) ≡ unrefused
  passes = rw c.memories_refused-size.ensures at (sym c.in_ok-read_check.ensures)

  taken : Taken c.args.file.now (length c.args.chars.now) (length c.args.attrs.now)
  taken = read-passed _ _ _ passes

pub bounds-file-0 : goal.bounds-file-0
bounds-file-0 c = omega (arith, (taken (goal.at.bounds-file-0 c).In_ok-read_check).file-all)

pub take_from-requires : goal.take_from-requires
take_from-requires c =
    let fits = taken (goal.at.take_from-requires c).In_ok-read_check in
    omega (arith, c.chars_place-start.ensures, fits.file-all, fits.chars-all)

pub overflow_add-start : goal.overflow_add-start
overflow_add-start c = record { fits = omega (arith, c.chars_place-start.ensures, (layout-fits (version_in c.args.file.now)).page-most) }

pub take_from-requires-2 : goal.take_from-requires-2
take_from-requires-2 c =
    let fits = taken (goal.at.take_from-requires-2 c).In_ok-read_check in
    omega (arith, c.chars_place-start.ensures, fits.file-all, fits.attrs-all)

pub board_at-requires : goal.board_at-requires
board_at-requires c = omega (arith, (taken (goal.at.board_at-requires c).In_ok-read_check).file-all)

pub returns-in_err-read_check : goal.returns-in_err-read_check
returns-in_err-read_check c =
    let refused = rw c.memories_refused-size.ensures at c.in_err-read_check.ensures in
    let kept = read-refused _ _ c.args.chars.now c.args.attrs.now (ap is_ok (sym refused)) in
    (sent-on c.from_residual.result c.from_residual.ensures.1 ∙ read-why _ _ c.args.chars.now c.args.attrs.now refused, kept.0, kept.1)

pub returns : goal.returns
returns c =
    let passed = (goal.at.returns c).In_ok-read_check in
    let fits = taken passed in
    let file = c.args.file.now in
    let place = c.chars_place-start.ensures in
    read_done file _ c.args.chars.now c.args.attrs.now (passes passed) _ c.board_at.ensures _ _
    (c.take_from.ensures ∙ ap₂ (λ (n a : ℕ). take n (drop a file)) fits.chars-all place)
    (c.take_from-2.ensures ∙ ap₂ (λ (n a : ℕ). take n (drop (a + 16384) file)) fits.attrs-all place)
