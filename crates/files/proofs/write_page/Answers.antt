-- Rests on write-passed for what the callee asks, on write_done and write-refused for what is left.
use Rattle.std.specs.Prelude.{is_ok}
use Rattle.std.proofs.Common.{sym, ap, ◌∙◌}
use Rattle.refusal.specs.Laws.{sent-on}
use Rattle.files.specs.Laws.{write-passed, write_done, write-refused}
use Rattle.files.proofs.write_page.Goals as goal

pub put_file-requires : goal.put_file-requires
put_file-requires c = write-passed _ _ _ _ (sym c.in_ok-write_check.ensures)

pub returns-in_err-write_check : goal.returns-in_err-write_check
returns-in_err-write_check c =
    let refused = c.in_err-write_check.ensures in
    (sent-on c.from_residual.result c.from_residual.ensures.1 ∙ refused, write-refused _ _ _ _ (ap is_ok (sym refused)))

pub returns : goal.returns
returns c =
    let ok = c.in_ok-write_check.ensures in
    (ok, write_done _ _ _ _ (ap is_ok (sym ok)) _ c.put_file.ensures)
