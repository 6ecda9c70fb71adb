-- No second answer meets the contract of a public function of `units`, `refusal`, `raster`, `board`, `timing` or `registers`: it names its answer, so each of
-- these is `only`.
use Rattle.std.specs.Prelude.{ℕ, min, ◌+◌, ◌-◌, ◌*◌, ◌/◌, ◌%◌, eqb, ltb, leb, ◌≡◌, Bool, is_ok}
use Rattle.lists.specs.Answer.{OneAnswer, only}
use Rattle.units.specs.declared.Dots.{Dots}
use Rattle.units.specs.declared.Clocks.{Clocks}
use Rattle.units.specs.declared.Lines.{Lines}
use Rattle.units.specs.Units.{clocks, lines, dots, during, clocks_of, whole_lines, dots_of}
use Rattle.refusal.specs.Number.{Checked, number_of, beside_of, wrong_size}
use Rattle.raster.specs.declared.Buffer.{Buffer}
use Rattle.raster.specs.declared.Cell.{Cell}
use Rattle.raster.specs.declared.Code.{Code}
use Rattle.raster.specs.Moves.{cell, advance, advance_by}
use Rattle.raster.specs.Wide.{code_of, is_wide, is_top, is_bottom, again_at}
use Rattle.raster.specs.Latch.{latched}
use Rattle.board.specs.declared.Starts.{Starts}
use Rattle.board.specs.declared.Video.{Video}
use Rattle.board.specs.declared.Page.{Page}
use Rattle.board.specs.declared.Place.{Place}
use Rattle.board.specs.declared.Board.{Board}
use Rattle.board.specs.State.{clock_zero, power_of}
use Rattle.board.specs.Layout.{layout_of, last_ir, page_length}
use Rattle.board.specs.Modes.{version_of, field_mode, setters_hidden, chip_b}
use Rattle.board.specs.Range.{memories_refused, starts_refused, switches_refused, address_refused, cells_refused, pointer_refused, video_refused}
use Rattle.timing.specs.Fields.{scans_of, lines_of, timing_of, visible_of, buffer_of, coded_of, table_of, cursor_of, underline_of, blink_of}
use Rattle.timing.specs.Check.{width_refused, page_check, size_of, state_refused, call_check}
use Rattle.registers.specs.Write.{write_of}
use Rattle.registers.specs.Read.{read_of}
use Rattle.registers.specs.Video.{set_video_of}

-- ---- `units`. `<`, `<=`, `==` and `min` of counts are derived; `units` Order says that the order is this one.

pub clocks-count-of-one : (n : ℕ) → OneAnswer (λ r. r ≡ clocks n)
clocks-count-of-one n = only _

pub clocks-below-one : (a b : Clocks) → OneAnswer (λ r. r ≡ ltb a.0 b.0)
clocks-below-one a b = only _

pub clocks-at-most-one : (a b : Clocks) → OneAnswer (λ r. r ≡ leb a.0 b.0)
clocks-at-most-one a b = only _

pub clocks-same-one : (a b : Clocks) → OneAnswer (λ r. r ≡ eqb a.0 b.0)
clocks-same-one a b = only _

pub clocks-plus-one : (a b : Clocks) → OneAnswer (λ r. r ≡ clocks (a.0 + b.0))
clocks-plus-one a b = only _

pub clocks-minus-one : (a b : Clocks) → OneAnswer (λ r. r ≡ clocks (a.0 - b.0))
clocks-minus-one a b = only _

pub clocks-times-one : (a : Clocks) (k : ℕ) → OneAnswer (λ r. r ≡ clocks (k * a.0))
clocks-times-one a k = only _

pub clocks-least-one : (a b : Clocks) → OneAnswer (λ r. r ≡ clocks (min a.0 b.0))
clocks-least-one a b = only _

pub clocks-during-one : (a from n : Clocks) → OneAnswer (λ r. r ≡ during from.0 n.0 a.0)
clocks-during-one a from n = only _

pub clocks-remainder-one : (a n : Clocks) → OneAnswer (λ r. r ≡ clocks (a.0 % n.0))
clocks-remainder-one a n = only _

pub clocks-quotient-one : (a n : Clocks) → OneAnswer (λ r. r ≡ a.0 / n.0)
clocks-quotient-one a n = only _

pub clocks-places-one : (a : Clocks) → OneAnswer (λ r. r ≡ a.0)
clocks-places-one a = only _

pub clocks-half-one : (a : Clocks) → OneAnswer (λ r. r ≡ clocks (a.0 / 2))
clocks-half-one a = only _

pub clocks-is-odd-one : (a : Clocks) → OneAnswer (λ r. r ≡ eqb (a.0 % 2) 1)
clocks-is-odd-one a = only _

pub clocks-cells-one : (a : Clocks) → OneAnswer (λ r. r ≡ a.0)
clocks-cells-one a = only _

pub clocks-pairs-one : (a : Clocks) → OneAnswer (λ r. r ≡ a.0 / 2)
clocks-pairs-one a = only _

pub clocks-pairs-begun-one : (a : Clocks) → OneAnswer (λ r. r ≡ (a.0 + 1) / 2)
clocks-pairs-begun-one a = only _

pub lines-count-of-one : (n : ℕ) → OneAnswer (λ r. r ≡ lines n)
lines-count-of-one n = only _

pub lines-below-one : (a b : Lines) → OneAnswer (λ r. r ≡ ltb a.0 b.0)
lines-below-one a b = only _

pub lines-at-most-one : (a b : Lines) → OneAnswer (λ r. r ≡ leb a.0 b.0)
lines-at-most-one a b = only _

pub lines-same-one : (a b : Lines) → OneAnswer (λ r. r ≡ eqb a.0 b.0)
lines-same-one a b = only _

pub lines-plus-one : (a b : Lines) → OneAnswer (λ r. r ≡ lines (a.0 + b.0))
lines-plus-one a b = only _

pub lines-minus-one : (a b : Lines) → OneAnswer (λ r. r ≡ lines (a.0 - b.0))
lines-minus-one a b = only _

pub lines-times-one : (a : Lines) (k : ℕ) → OneAnswer (λ r. r ≡ lines (k * a.0))
lines-times-one a k = only _

pub lines-during-one : (a from n : Lines) → OneAnswer (λ r. r ≡ during from.0 n.0 a.0)
lines-during-one a from n = only _

pub lines-quotient-one : (a n : Lines) → OneAnswer (λ r. r ≡ a.0 / n.0)
lines-quotient-one a n = only _

pub lines-remainder-one : (a n : Lines) → OneAnswer (λ r. r ≡ lines (a.0 % n.0))
lines-remainder-one a n = only _

pub lines-half-one : (a : Lines) → OneAnswer (λ r. r ≡ lines (a.0 / 2))
lines-half-one a = only _

pub lines-places-one : (a : Lines) → OneAnswer (λ r. r ≡ a.0)
lines-places-one a = only _

pub dots-count-of-one : (n : ℕ) → OneAnswer (λ r. r ≡ dots n)
dots-count-of-one n = only _

pub dots-below-one : (a b : Dots) → OneAnswer (λ r. r ≡ ltb a.0 b.0)
dots-below-one a b = only _

pub dots-plus-one : (a b : Dots) → OneAnswer (λ r. r ≡ dots (a.0 + b.0))
dots-plus-one a b = only _

pub dots-minus-one : (a b : Dots) → OneAnswer (λ r. r ≡ dots (a.0 - b.0))
dots-minus-one a b = only _

pub dots-times-one : (a : Dots) (k : ℕ) → OneAnswer (λ r. r ≡ dots (k * a.0))
dots-times-one a k = only _

pub dots-during-one : (a from n : Dots) → OneAnswer (λ r. r ≡ during from.0 n.0 a.0)
dots-during-one a from n = only _

pub dots-quotient-one : (a n : Dots) → OneAnswer (λ r. r ≡ a.0 / n.0)
dots-quotient-one a n = only _

pub dots-remainder-one : (a n : Dots) → OneAnswer (λ r. r ≡ dots (a.0 % n.0))
dots-remainder-one a n = only _

pub dots-half-one : (a : Dots) → OneAnswer (λ r. r ≡ dots (a.0 / 2))
dots-half-one a = only _

pub dots-places-one : (a : Dots) → OneAnswer (λ r. r ≡ a.0)
dots-places-one a = only _

pub clocks-of-one : (n : Lines) (line : Clocks) → OneAnswer (λ r. r ≡ clocks_of n line)
clocks-of-one n line = only _

pub whole-lines-one : (n line : Clocks) → OneAnswer (λ r. r ≡ whole_lines n line)
whole-lines-one n line = only _

pub dots-of-one : (n : Clocks) (clock : Dots) → OneAnswer (λ r. r ≡ dots_of n clock)
dots-of-one n clock = only _

-- ---- `refusal`

pub number-one : (x : Checked) → OneAnswer (λ r. r ≡ number_of x)
number-one x = only _

pub beside-one : (x : Checked) → OneAnswer (λ r. r ≡ beside_of x)
beside-one x = only _

pub is-done-one : (x : Checked) → OneAnswer (λ r. r ≡ is_ok x)
is-done-one x = only _

pub wrong-size-one : (wrong : Bool) → OneAnswer (λ r. r ≡ wrong_size wrong)
wrong-size-one wrong = only _

-- ---- `raster`

pub advance-one-one : (b : Buffer) (c : Cell) → OneAnswer (λ r. r ≡ cell (advance b c.address))
advance-one-one b c = only _

pub advance-by-one : (b : Buffer) (k : ℕ) (c : Cell) → OneAnswer (λ r. r ≡ cell (advance_by b k c.address))
advance-by-one b k c = only _

pub latched-one : (byte held : ℕ) → OneAnswer (λ r. r ≡ latched byte held)
latched-one byte held = only _

pub code-of-one : (byte : ℕ) → OneAnswer (λ r. r ≡ code_of byte)
code-of-one byte = only _

pub is-wide-one : (k : Code) → OneAnswer (λ r. r ≡ is_wide k)
is-wide-one k = only _

pub is-top-one : (k : Code) → OneAnswer (λ r. r ≡ is_top k)
is-top-one k = only _

pub is-bottom-one : (k : Code) → OneAnswer (λ r. r ≡ is_bottom k)
is-bottom-one k = only _

pub again-at-one : (k : Code) (column : Clocks) → OneAnswer (λ r. r ≡ again_at k column.0)
again-at-one k column = only _

-- ---- `board`

pub power-one : OneAnswer (λ r. r ≡ power_of)
power-one = only _

pub clock-zero-one : OneAnswer (λ r. r ≡ clock_zero)
clock-zero-one = only _

pub memories-refused-one : (chars attrs : ℕ) → OneAnswer (λ r. r ≡ memories_refused chars attrs)
memories-refused-one chars attrs = only _

pub starts-refused-one : (s : Starts) → OneAnswer (λ r. r ≡ starts_refused s)
starts-refused-one s = only _

pub switches-refused-one : (version switches : ℕ) → OneAnswer (λ r. r ≡ switches_refused version switches)
switches-refused-one version switches = only _

pub version-of-one : (p : Page) → OneAnswer (λ r. r ≡ version_of p)
version-of-one p = only _

pub layout-of-one : (version : ℕ) → OneAnswer (λ r. r ≡ layout_of version)
layout-of-one version = only _

pub irs-of-one : (version : ℕ) → OneAnswer (λ r. r ≡ (layout_of version).irs)
irs-of-one version = only _

pub last-ir-one : (version : ℕ) → OneAnswer (λ r. r ≡ last_ir version)
last-ir-one version = only _

pub page-length-one : (version : ℕ) → OneAnswer (λ r. r ≡ page_length version)
page-length-one version = only _

pub field-mode-one : (p : Page) → OneAnswer (λ r. r ≡ field_mode p)
field-mode-one p = only _

pub chip-b-one : (p : Page) → OneAnswer (λ r. r ≡ chip_b p)
chip-b-one p = only _

pub setters-hidden-one : (p : Page) → OneAnswer (λ r. r ≡ setters_hidden p)
setters-hidden-one p = only _

pub video-refused-one : (version : ℕ) (v : Video) → OneAnswer (λ r. r ≡ video_refused version v)
video-refused-one version v = only _

pub address-refused-one : (p : Page) → OneAnswer (λ r. r ≡ address_refused p)
address-refused-one p = only _

pub cells-refused-one : (p : Place) → OneAnswer (λ r. r ≡ cells_refused p)
cells-refused-one p = only _

pub pointer-refused-one : (p : Page) (n : ℕ) → OneAnswer (λ r. r ≡ pointer_refused p n)
pointer-refused-one p n = only _

-- ---- `timing`

pub page-check-one : (p : Page) → OneAnswer (λ r. r ≡ page_check p)
page-check-one p = only _

pub page-size-one : (p : Page) → OneAnswer (λ r. r ≡ size_of p)
page-size-one p = only _

pub timing-of-one : (p : Page) → OneAnswer (λ r. r ≡ timing_of p)
timing-of-one p = only _

pub row-of-one : (p : Page) (line : Lines) → OneAnswer (λ r. r ≡ line.0 / lines_of p)
row-of-one p line = only _

pub line-of-row-one : (p : Page) (line : Lines) → OneAnswer (λ r. r ≡ lines (line.0 % lines_of p))
line-of-row-one p line = only _

pub buffer-of-one : (p : Page) → OneAnswer (λ r. r ≡ buffer_of p)
buffer-of-one p = only _

pub table-of-one : (p : Page) → OneAnswer (λ r. r ≡ table_of p)
table-of-one p = only _

pub coded-of-one : (p : Page) → OneAnswer (λ r. r ≡ coded_of p)
coded-of-one p = only _

pub cursor-of-one : (p : Page) → OneAnswer (λ r. r ≡ cursor_of p)
cursor-of-one p = only _

pub underline-of-one : (p : Page) → OneAnswer (λ r. r ≡ underline_of p)
underline-of-one p = only _

pub blink-of-one : (p : Page) → OneAnswer (λ r. r ≡ blink_of p)
blink-of-one p = only _

pub width-refused-one : (d : Dots) → OneAnswer (λ r. r ≡ width_refused d)
width-refused-one d = only _

pub scans-of-one : (p : Page) → OneAnswer (λ r. r ≡ lines (scans_of p))
scans-of-one p = only _

pub visible-of-one : (p : Page) → OneAnswer (λ r. r ≡ visible_of p)
visible-of-one p = only _

pub state-refused-one : (b : Board) → OneAnswer (λ r. r ≡ state_refused b)
state-refused-one b = only _

pub call-check-one : (b : Board) (lent : Checked) (asked room : Bool) → OneAnswer (λ r. r ≡ call_check b lent asked room)
call-check-one b lent asked room = only _

-- ---- `registers`

pub set-video-one : (b : Board) (d : Dots) (k : ℕ) (bk rb : Bool) → OneAnswer (λ r. r ≡ set_video_of b d k bk rb)
set-video-one b d k bk rb = only _

pub write-one : (b : Board) (a v : ℕ) → OneAnswer (λ r. r ≡ write_of b a v)
write-one b a v = only _

pub read_one : (b : Board) (a : ℕ) → OneAnswer (λ r. r ≡ read_of b a)
read_one b a = only _
