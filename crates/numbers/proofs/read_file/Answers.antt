-- Rests on read_fits for what the callees ask, on file-read and numbers-kept for what is left.
use Rattle.std.specs.Prelude.{is_ok}
use Rattle.std.proofs.Common.{◌≡◌, ℕ, ◌-◌, length, take, drop, sym, ap, ◌∙◌, arith}
use Rattle.refusal.specs.Number.{unrefused}
use Rattle.refusal.specs.Laws.{sent-on}
use Rattle.board.specs.Layout.{page_length, file_size}
use Rattle.copies.specs.Put.{length_part}
use Rattle.files.specs.Page.{version_in}
use Rattle.files.specs.File.{read_check}
use Rattle.files.specs.Laws.{read-refused}
use Rattle.numbers.specs.Numbers.{zeros_after, numbers_front}
use Rattle.numbers.specs.Files.{page_read_size}
use Rattle.numbers.specs.Laws.{read_fits, page-not-refused, file-read, numbers-kept}
use Rattle.numbers.proofs.read_file.Goals as goal
use Rattle.numbers.proofs.read_file.Goals.{In_ok-read_check}

-- the check passes the file and what is lent, and how long the file and the numbers then are
module _ (c : In_ok-read_check) where
  passes : read_check c.args.file.now (page_read_size (length c.args.numbers.now) (length c.args.chars.now) (length c.args.attrs.now)) ≡ unrefused
  passes = rw c.memories_refused.ensures at (sym c.in_ok-read_check.ensures)

  fits : (length c.args.file.now ≡ file_size (version_in c.args.file.now)) × (length c.args.numbers.now ≡ 32)
  fits = read_fits c.args.file.now (length c.args.numbers.now) (length c.args.chars.now) (length c.args.attrs.now) passes

pub returns-in_err-read_check : goal.returns-in_err-read_check
returns-in_err-read_check c =
    let refused = rw c.memories_refused.ensures at c.in_err-read_check.ensures in
    let kept = read-refused _ _ c.args.chars.now c.args.attrs.now (ap is_ok (sym refused)) in
    (sent-on c.from_residual.result c.from_residual.ensures.1 ∙ refused, numbers-kept _ _ _ (ap is_ok (sym refused)), kept.0, kept.1)

pub returns-in_err-read_page : goal.returns-in_err-read_page
returns-in_err-read_page c =
    absurd (page-not-refused _ _ (length c.args.chars.now) (length c.args.attrs.now) (passes (goal.at.returns-in_err-read_page c).In_ok-read_check) c.in_err-read_page.ensures.0)

pub bounds-file-0 : goal.bounds-file-0
bounds-file-0 c = omega (arith, (fits (goal.at.bounds-file-0 c).In_ok-read_check).0)

pub bounds-file-0-2 : goal.bounds-file-0-2
bounds-file-0-2 c = omega (arith, (fits (goal.at.bounds-file-0-2 c).In_ok-read_check).0)

pub slice_bounds-put_numbers-end : goal.slice_bounds-put_numbers-end
slice_bounds-put_numbers-end c = omega (arith, c.chars_place-end.ensures, (fits (goal.at.slice_bounds-put_numbers-end c).In_ok-read_check).0)

pub put_numbers-requires : goal.put_numbers-requires
put_numbers-requires c =
    let file = c.args.file.now in
    let sizes = fits (goal.at.put_numbers-requires c).In_ok-read_check in
    let bytes-are : c.chars_place-end.result - 5 ≡ page_length (version_in file) = omega (arith, c.chars_place-end.ensures) in
    (ap (λ (n : ℕ). length (take n (drop 5 file))) bytes-are ∙ length_part file 5 (page_length (version_in file)) (omega (arith, sizes.0)), sizes.1)

pub returns : goal.returns
returns c =
    let file = c.args.file.now in
    let ok = passes (goal.at.returns c).In_ok-read_check in
    let bytes-are : c.chars_place-end.result - 5 ≡ page_length (version_in file) = omega (arith, c.chars_place-end.ensures) in
    let read = c.read_page.ensures in
    let left =
    file-read file (length c.args.numbers.now) (length c.args.chars.now) (length c.args.attrs.now) ok c.args.numbers.now c.args.chars.now c.args.attrs.now
    (c.put_numbers.ensures ∙ ap (λ (n : ℕ). numbers_front (version_in file) (take n (drop 5 file)) (zeros_after (version_in file))) bytes-are) read.1 read.2 in
    (sym ok, left.0, left.1, left.2)
