-- Rests on file-passed and file-first: the page is judged once 1, 2 and 3 are passed.
use Rattle.std.specs.Prelude.{Bool, is_ok}
use Rattle.std.proofs.Common.{◌≡◌, ℕ, List, sym, ap, ◌∙◌, arith}
use Rattle.refusal.specs.Number.{Checked, unrefused}
use Rattle.refusal.specs.Laws.{sent-on}
use Rattle.board.specs.Layout.{newest_version, length_field}
use Rattle.files.specs.Page.{version_in}
use Rattle.files.specs.File.{file_check, read_check}
use Rattle.files.specs.Laws.{file-sized, file-passed, file-rest, file-first}
use Rattle.files.proofs.read_check.Goals as goal

-- what 1, 2 and 3 answer of the bytes that the file's version says
answered : (file : List ℕ) (size : Bool) {n version : ℕ} {r : Checked} → n ≡ length_field version → version ≡ version_in file
    → r ≡ file_check file newest_version n size unrefused → r ≡ file_check file newest_version (length_field (version_in file)) size unrefused
answered file size n v e = rw (n, v) at e

pub page_at-requires : goal.page_at-requires
page_at-requires c =
    let ok = answered _ _ c.length_field-n.ensures.0 c.version_in.ensures c.in_ok-file_check.ensures in
    omega (arith, file-sized _ _ (file-passed _ _ _ _ _ (sym ok)).length-ok)

pub returns-in_err-file_check : goal.returns-in_err-file_check
unfolding read_check
returns-in_err-file_check c =
    let refused = answered _ _ c.length_field-n.ensures.0 c.version_in.ensures c.in_err-file_check.ensures in
    sent-on c.from_residual.result c.from_residual.ensures.1 ∙ refused ∙ file-first _ _ _ _ _ (ap is_ok (sym refused))

pub returns : goal.returns
unfolding read_check
returns c =
    let ok = answered _ _ c.length_field-n.ensures.0 c.version_in.ensures c.in_ok-file_check.ensures in
    c.page_check.ensures ∙ rw c.page_at.ensures (file-rest _ _ _ _ _ (ap is_ok (sym ok)))
