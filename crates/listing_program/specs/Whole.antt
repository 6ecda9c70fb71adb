-- The listing of an accepted page file, line by line, fits 3,073 bytes: nothing that the listing program calls for is refused. Assumes nothing.
use Rattle.std.specs.Prelude.{ℕ, ◌+◌, ◌*◌, ◌≤◌, ◌<◌, ◌≡◌, List, length}
use Rattle.std.proofs.Common.{arith, le-ltb, length-append}
use Rattle.std.proofs.lemmas.Bool.{lt-leb}
use Rattle.refusal.specs.Number.{unrefused}
use Rattle.board.specs.declared.Page.{Page}
use Rattle.board.specs.Layout.{last_ir}
use Rattle.timing.specs.Fields.{rows_of, lines_of, hact_of, ht_of, vt_of, visible_of}
use Rattle.timing.specs.Check.{page_check, size_of, state_refused, call_check}
use Rattle.timing.specs.Laws.{accepted, visible-bound, dots-bound}
use Rattle.files.specs.Page.{page_at, board_at}
use Rattle.line.specs.Line.{line_length}
use Rattle.listing.specs.Decimal.{decimal, length-decimal}
use Rattle.listing.specs.Listing.{listing_head, head_check, line_check}
use Rattle.listing.specs.Head.{head-fits}

-- a page has few enough lines to count
pub lines-small : (p : Page) → (visible_of p).0 ≤ 2048
lines-small p = visible-bound p

-- [case listing]
-- the buffer has room for the head of every accepted page
pub head-answers : (p : Page) → page_check p ≡ unrefused → head_check p 3073 ≡ unrefused
unfolding listing_head size_of
head-answers p e =
    let high = rows_of p * lines_of p in
    let broad = hact_of p * p.video.dots.0 in
    let l : length (decimal high) ≤ 4 = length-decimal 3 high (omega (arith, visible-bound p)) in
    let d : length (decimal broad) ≤ 4 = length-decimal 3 broad (omega (arith, dots-bound p (accepted p e))) in
    head-fits p 3073 e (rw e (simp length-append (omega arith)))

-- [case listing]
-- and for every visible line
pub line-answers : (file : List ℕ) → page_check (page_at file 5) ≡ unrefused → (line : ℕ) → line < (visible_of (page_at file 5)).0 → line_check (board_at file 5) unrefused line 3073 ≡ unrefused
unfolding line_check call_check state_refused
line-answers file e line h =
    let p = page_at file 5 in
    let n = line_length (board_at file 5) in
    rw (e, lt-leb (vt_of p) 0 (omega arith), lt-leb (ht_of p) 0 (omega arith), le-ltb (last_ir p.version) 0 (omega arith), lt-leb (visible_of p).0 line h, le-ltb 3073 (n + 1) (omega (arith, dots-bound p (accepted p e))))
