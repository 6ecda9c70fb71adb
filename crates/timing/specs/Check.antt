-- The page check of 01, and the size of an accepted page's picture.
use Rattle.std.specs.Prelude.{◌+◌, ◌-◌, ◌/◌, ◌%◌, Bool, ◌&&◌, ◌||◌, not, [], ◌∷◌, eqb, ltb, leb, is_ok, Err, Result}
use Rattle.lists.specs.Choice.{first_of}
use Rattle.units.specs.declared.Clocks.{Clocks}
use Rattle.units.specs.declared.Dots.{Dots}
use Rattle.units.specs.Units.{clocks, lines, dots, dots_of}
use Rattle.refusal.specs.declared.Refusal.{Refusal}
use Rattle.refusal.specs.declared.Refusal.TheVariants.{Reserved, BackPorch, LineShort, FrontPorch, Width, Range, Room, Address}
use Rattle.refusal.specs.Number.{Checked, unrefused, given, value_or}
use Rattle.board.specs.declared.Page.{Page}
use Rattle.board.specs.declared.Board.{Board}
use Rattle.board.specs.Range.{address_refused, cells_refused, pointer_refused}
use Rattle.timing.specs.declared.PageSize.{PageSize}
use Rattle.timing.specs.Fields.{ir, coded_of, table_of, rest_of, hfp_of, hact_of, ht_of, vt_of, visible_of}

-- [register reserved] IR1[7] must be 0, and IR0[7] needs the row table (02, R-4)
-- 4: interlace (IR1[7]), or IR0[7] without the row table
abbrev pub reserved_refused : Page → Bool
reserved_refused p = eqb (ir p 1 / 128 % 2) 1 || (coded_of p && not (table_of p))

-- [R-2 porches] 13 a back porch code of 0; 14 a line too short for its other parts; 15 a front porch of 0 or 1
-- 13: HBP code 0
abbrev pub back_porch_refused : Page → Bool
back_porch_refused p = eqb (ir p 2 % 8) 0

-- [R-2 porches]
-- 14: the line is too short for its active, sync and back porch clocks
abbrev pub line_short : Page → Bool
line_short p = ltb (ht_of p) (rest_of p)

-- [R-2 porches]
-- 15: HFP 0 or 1
abbrev pub front_porch_refused : Page → Bool
front_porch_refused p = ltb (hfp_of p) 2

-- [R-2 missing] 14 and 15 give by how many clocks the front porch misses 2, exactly
-- by how many clocks the front porch misses 2: HACT + HSYNC + HBP + 2 - HT
abbrev pub missing : Page → Clocks
missing p = clocks (rest_of p + 2 - ht_of p)

-- [refusal numbers]
-- 6: dots not 6 to 12
abbrev pub width_refused : Dots → Bool
width_refused d = ltb d.0 6 || ltb 12 d.0

-- [refusal order] lowest number first, except that 12 precedes 4, and 13, 14 and 15 stand in 5's place
-- 12, 4, 13, 14, 15, 6
unfoldable pub page_check : Page → Checked
page_check p =
    first_of
    ((address_refused p, Err Address)
    ∷ (reserved_refused p, Err Reserved)
    ∷ (back_porch_refused p, Err BackPorch)
    ∷ (line_short p, Err (LineShort (missing p)))
    ∷ (front_porch_refused p, Err (FrontPorch (missing p)))
    ∷ (width_refused p.video.dots, Err Width)
    ∷ [])
    unrefused

-- rows x lines visible lines of HACT x dots
unfoldable pub size_of : Page → Result PageSize Refusal
size_of p = given (page_check p) (record { lines = visible_of p; dots = dots_of (clocks (hact_of p)) p.video.dots })

abbrev pub no_size : PageSize
no_size = record { lines = lines 0; dots = dots 0 }

-- [refusal zeros]
-- the same, and on a refusal zeros
abbrev pub size_in : Page → PageSize
size_in p = value_or no_size (size_of p)

-- [refusal numbers]
-- 7: a state's line, clock in the line, address, row start or IR pointer out of range
unfoldable pub state_refused : Board → Bool
state_refused b =
    leb (vt_of b.page) b.place.line.0
    || leb (ht_of b.page) b.place.clock.0
    || cells_refused b.place
    || pointer_refused b.page b.pointer

-- [refusal order]
-- drawing, stepping, states and runs give what refuses a lent part, 3, then the page's own 12, 4, 13, 14, 15, 6, then 7 for the state and for what is asked, then 8
unfoldable pub call_check : Board → (lent : Checked) → (asked room : Bool) → Checked
call_check b lent asked room =
    first_of
    ((not (is_ok lent), lent)
    ∷ (not (is_ok (page_check b.page)), page_check b.page)
    ∷ (state_refused b || asked, Err Range)
    ∷ (room, Err Room)
    ∷ [])
    unrefused
