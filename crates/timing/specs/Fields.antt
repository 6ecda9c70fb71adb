-- 01, "Register fields" and "Clock and frame": a page's initialization registers decoded (003 Table 2).
use Rattle.std.specs.Prelude.{ℕ, ◌+◌, ◌-◌, ◌*◌, ◌/◌, ◌%◌, Bool, get_or, eqb}
use Rattle.lists.specs.Choice.{pick}
use Rattle.units.specs.declared.Lines.{Lines}
use Rattle.units.specs.Units.{clocks, lines}
use Rattle.raster.specs.declared.Counts.{Counts}
use Rattle.raster.specs.declared.Buffer.{Buffer}
use Rattle.board.specs.declared.Page.{Page}
use Rattle.timing.specs.declared.Timing.{Timing}
use Rattle.timing.specs.declared.CursorLook.{CursorLook}

-- IRn
abbrev pub ir : Page → ℕ → ℕ
ir p n = get_or p.irs n 0

-- IR0[7]: the row table's entries have codes (02, R-4)
unfoldable pub coded_of : Page → Bool
coded_of p = eqb (ir p 0 / 128 % 2) 1

-- [register counts] lines, EC, HSYNC, HBP, VFP, VBP, rows and HACT by their codes
-- IR0[6:3]: scan lines per row
abbrev pub scans_of : Page → ℕ
scans_of p = ir p 0 / 8 % 16 + 1

-- lines a row: one for each of its scan lines
unfoldable pub lines_of : Page → ℕ
lines_of p = scans_of p

-- [register counts]
-- IR1[6:0]
abbrev pub ec_of : Page → ℕ
ec_of p = ir p 1 % 128 + 1

-- [register table] IR2[7]: row table on
-- IR2[7]: row table on
unfoldable pub table_of : Page → Bool
table_of p = eqb (ir p 2 / 128 % 2) 1

-- [register counts]
-- IR2[6:3]
abbrev pub hsync_of : Page → ℕ
hsync_of p = 2 * (ir p 2 / 8 % 16) + 2

-- [register counts]
-- IR2[2:0]: 4n-1; code 0 is refused, and gives 0 here
unfoldable pub hbp_of : Page → ℕ
hbp_of p = 4 * (ir p 2 % 8) - 1

-- [register counts]
-- IR3[7:5], [4:0]
abbrev pub vfp_of : Page → ℕ
vfp_of p = 4 * (ir p 3 / 32 % 8) + 4

-- [register counts]
abbrev pub vbp_of : Page → ℕ
vbp_of p = 2 * (ir p 3 % 32) + 4

-- [register blink] IR4[7]: blink over 64 or 128 fields
-- IR4[7]: blink over 64 or 128 fields; [6:0]: rows
unfoldable pub blink_of : Page → ℕ
blink_of p = 64 * (ir p 4 / 128 % 2 + 1)

-- [register counts]
abbrev pub rows_of : Page → ℕ
rows_of p = ir p 4 % 128 + 1

-- [register counts]
-- IR5
abbrev pub hact_of : Page → ℕ
hact_of p = ir p 5 % 256 + 1

-- [register cursor] cursor lines, whether it blinks, over 32 or 64 fields; the underline line
-- IR6[7:4], [3:0]; IR7[5]: the cursor blinks, [4]: over 32 or 64 fields
unfoldable pub cursor_of : Page → CursorLook
cursor_of p = record {
  first = lines (ir p 6 / 16 % 16);
  last = lines (ir p 6 % 16);
  blinks = eqb (ir p 7 / 32 % 2) 1;
  period = 32 * (ir p 7 / 16 % 2 + 1);
}

-- IR7[7:6]: VSYNC by its code n
abbrev pub vsync_by : ℕ → ℕ
vsync_by n = pick (eqb n 0) 3 (pick (eqb n 1) 1 (pick (eqb n 2) 5 7))

-- [register vsync] VSYNC 3, 1, 5, 7
unfoldable pub vsync_of : Page → ℕ
vsync_of p = vsync_by (ir p 7 / 64 % 4)

-- [register cursor]
-- IR7[3:0]
abbrev pub underline_of : Page → Lines
underline_of p = lines (ir p 7 % 16)

-- [register buffer] first and last buffer address
-- IR8, IR9[3:0]: first buffer address; IR9[7:4]: last, 1024(n+1)-1
unfoldable pub buffer_of : Page → Buffer
buffer_of p = record {
  first = ir p 9 % 16 * 256 + ir p 8 % 256;
  last = 1024 * (ir p 9 / 16 % 16 + 1) - 1;
}

-- [clock HT] clocks per line HT = 2(EC + 2 HSYNC); HFP = HT - HACT - HSYNC - HBP
-- clocks per line, from 001's equalizing formula
abbrev pub ht_of : Page → ℕ
ht_of p = 2 * (ec_of p + 2 * hsync_of p)

-- what a line has besides its front porch, and the front porch; 0 where the rest does not fit the line, which is refused
abbrev pub rest_of : Page → ℕ
rest_of p = hact_of p + hsync_of p + hbp_of p

-- [clock HT]
abbrev pub hfp_of : Page → ℕ
hfp_of p = ht_of p - rest_of p

-- the lines that show a picture, and lines per frame
abbrev pub visible_of : Page → Lines
visible_of p = lines (rows_of p * lines_of p)

-- [clock VT] lines per frame VT = rows x lines + VFP + VSYNC + VBP
abbrev pub vt_of : Page → ℕ
vt_of p = rows_of p * lines_of p + vfp_of p + vsync_of p + vbp_of p

-- [clock VT]
unfoldable pub counts_of : Page → Counts
counts_of p = record {
  ht = clocks (ht_of p);
  hact = clocks (hact_of p);
  vt = lines (vt_of p);
  lines = lines (lines_of p);
  rows = rows_of p;
}

unfoldable pub timing_of : Page → Timing
timing_of p = record {
  hsync = clocks (hsync_of p);
  hfp = clocks (hfp_of p);
  vfp = lines (vfp_of p);
  vsync = lines (vsync_of p);
  counts = counts_of p;
}
