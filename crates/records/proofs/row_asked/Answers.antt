-- Rests on run-passed for what the callees ask, on asked-row and asked-refused for the answer.
use Rattle.std.specs.Prelude.{Ok}
use Rattle.std.proofs.Common.{◌≡◌, List, ℕ, sym, ap, ◌∙◌, arith, length}
use Rattle.refusal.specs.Number.{check_of, unrefused}
use Rattle.refusal.specs.Laws.{sent-on}
use Rattle.timing.specs.Laws.{buffer-bounded}
use Rattle.board.specs.declared.Board.{Board}
use Rattle.fetch.specs.declared.Span.{Span}
use Rattle.fetch.specs.Run.{run_check, span_of}
use Rattle.fetch.specs.Laws.{run-passed, row-start-lt, span-number}
use Rattle.records.specs.Ends.{asked-row, asked-refused}
use Rattle.records.proofs.row_asked.Goals as goal

-- a row that has a span is not refused
whole : (b : Board) (chars : List ℕ) (row : ℕ) {s : Span} → Ok s ≡ span_of b chars row → run_check b (length chars) row ≡ unrefused
whole b chars row e = sym (ap check_of e ∙ span-number b chars row)

pub returns-in_err-span_of : goal.returns-in_err-span_of
returns-in_err-span_of c =
    let told = ap check_of c.in_err-span_of.ensures.0 ∙ span-number c.args.b c.args.chars.now c.args.row in
    sent-on c.from_residual.result c.from_residual.ensures.1 ∙ asked-refused _ _ _ told

pub fetched_of-n-requires : goal.fetched_of-n-requires
fetched_of-n-requires c =
    let k = run-passed _ _ _ (whole _ _ _ c.in_ok-span_of.ensures.0) in
    (k.whole, omega (arith, k.row_lt))

pub row_start-start-requires : goal.row_start-start-requires
row_start-start-requires c =
    let k = run-passed _ _ _ (whole _ _ _ c.in_ok-span_of.ensures.0) in
    (k.whole, omega (arith, k.row_lt))

pub row_ends-requires : goal.row_ends-requires
row_ends-requires c =
    let k = run-passed _ _ _ (whole _ _ _ c.in_ok-span_of.ensures.0) in
    (rw c.buffer_of.ensures (buffer-bounded _), rw c.row_start-start.ensures (row-start-lt _ _ k.page _))

pub returns : goal.returns
returns c = asked-row _ _ _ (whole _ _ _ c.in_ok-span_of.ensures.0) c.buffer_of.ensures c.row_start-start.ensures c.fetched_of-n.ensures c.row_ends.ensures
