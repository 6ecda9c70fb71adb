-- The board's place, one clock on and at once (01, "Clock and frame", "Which cell is fetched"; 02, R-1 and R-4).
use Rattle.std.specs.Prelude.{ℕ, ◌+◌, ◌-◌, ◌/◌, ◌%◌, Bool, ◌&&◌, List, ◌==◌, nat_lt}
use Rattle.lists.specs.Choice.{pick}
use Rattle.units.specs.Units.{clocks, lines}
use Rattle.raster.specs.declared.Row.{Row}
use Rattle.raster.specs.Moves.{advance}
use Rattle.raster.specs.Latch.{latched, sets_of}
use Rattle.raster.specs.Wide.{code_of, again_at, ends_at}
use Rattle.raster.specs.Beams.{beam, row}
use Rattle.board.specs.declared.Page.{Page}
use Rattle.board.specs.declared.Place.{Place}
use Rattle.board.specs.Modes.{field_mode}
use Rattle.timing.specs.Fields.{coded_of, table_of, lines_of, rows_of, hact_of, ht_of, vt_of, visible_of, buffer_of, counts_of}
use Rattle.fetch.specs.Rows.{entry_of, code_at, row_start, cell_at}
use Rattle.latch.specs.Held.{held_at}
use Rattle.place.specs.declared.Carried.{Carried}

-- [clock parts]
-- an active clock of a visible line
abbrev pub active_at : Page → Place → Bool
active_at p q = nat_lt q.line.0 (visible_of p).0 && nat_lt q.clock.0 (hact_of p)

-- column 0 of a visible line
abbrev pub loads_at : Page → Place → Bool
loads_at p q = nat_lt q.line.0 (visible_of p).0 && q.clock.0 == 0

-- what the beam carries along, with its row's code, and what its row began with
abbrev pub carried : (beam row : Row) → Carried
carried x y = record { beam = x; row = y }

-- a place by its numbers
abbrev pub placed : (field line clock : ℕ) → Carried → Place
placed field line clock c = record {
  field = field;
  line = lines line;
  clock = clocks clock;
  beam = beam c.beam.address c.beam.latch;
  row = c.row;
}

-- ---- what a latch byte and a row's code count as

-- what a byte sets: nothing in character mode
abbrev pub set_by : Page → (byte : ℕ) → ℕ
set_by p byte = pick (field_mode p) byte 0

-- [R-1 counted] a latch handed over without AFLG, or in character mode, counts as 0, and a step leaves 0 (our ruling)
-- one that is handed over without AFLG, or in character mode, counts as none
unfoldable pub counted_latch : Page → (latch : ℕ) → ℕ
counted_latch p latch = latched (set_by p latch) 0

-- [R-4 counted] of a code handed over two bits count, none while IR0[7] is 0, and a step leaves what counts (our ruling)
-- of a row's code two bits count, and none while IR0[7] is 0
unfoldable pub counted_code : Page → (code : ℕ) → ℕ
counted_code p code = pick (coded_of p) (code % 4) 0

abbrev pub settled : Page → Row → Row
settled p x = row x.address (counted_latch p x.latch) (counted_code p x.code)

-- what the beam holds, by its row's code
abbrev pub held_in : Page → Place → Row
held_in p q = settled p (row q.beam.address q.beam.latch q.row.code)

-- ---- one clock: load on column 0 of a visible line; fetch, latch and move on; turn to the next clock, line or frame

-- [fetch start]
-- where a row begins if an address is held: at its table entry if the table is on; else row 0 at screen start 1; else it carries on
abbrev pub begins_at : Page → (chars : List ℕ) → (row held : ℕ) → ℕ
begins_at p chars r held = pick (table_of p) (entry_of p chars r) (pick (r == 0) p.starts.start1 held)

-- what a row begins with: at the start of a frame nothing is latched
abbrev pub begun_in : Page → (chars : List ℕ) → (row : ℕ) → Row → Row
begun_in p chars r x = row (begins_at p chars r x.address) (pick (r == 0) 0 x.latch) (code_at p chars r)

-- [fetch load] on column 0 of a visible line the address is loaded; a row's later lines load its row start again
-- [R-1 lines]
-- what a clock works on. On column 0 of a visible line it is loaded: a row's first line begins the row, its later lines load the row's start again
unfoldable pub loaded_in : Page → (chars : List ℕ) → Place → Carried
loaded_in p chars q =
    pick (loads_at p q)
    (pick (q.line.0 % lines_of p == 0)
    (carried (begun_in p chars (q.line.0 / lines_of p) (held_in p q)) (begun_in p chars (q.line.0 / lines_of p) (held_in p q)))
    (carried (settled p q.row) (settled p q.row)))
    (carried (held_in p q) (settled p q.row))

-- [R-4 step]
-- past a clock: the cell that it fetches is latched if it has AFLG, and after a cell's last column the beam moves on
abbrev pub past_cell : Page → (attrs : List ℕ) → (clock : ℕ) → Row → Row
past_cell p attrs clock x =
    row
    (pick (ends_at (counts_of p) (code_of x.code) clock) (advance (buffer_of p) x.address) x.address)
    (pick (again_at (code_of x.code) clock) x.latch (latched (sets_of (field_mode p) attrs x.address) x.latch))
    x.code

-- [fetch hold] other clocks hold the address; a display that is off moves it all the same
-- [R-1 off] a display that is off latches all the same
-- each active clock of a visible line
unfoldable pub moved_in : Page → (attrs : List ℕ) → Place → Carried → Carried
moved_in p attrs q c = pick (active_at p q) (carried (past_cell p attrs q.clock.0 c.beam) c.row) c

-- [clock field] the field counter has eight bits and goes from 255 to 0 at the end of a frame
unfoldable pub turned_in : Page → Place → Carried → Place
turned_in p q c =
    pick (nat_lt (q.clock.0 + 1) (ht_of p))
    (placed q.field q.line.0 (q.clock.0 + 1) c)
    (pick (nat_lt (q.line.0 + 1) (vt_of p))
    (placed q.field (q.line.0 + 1) 0 c)
    (placed ((q.field + 1) % 256) 0 0 c))

abbrev pub next_place : Page → (chars attrs : List ℕ) → Place → Place
next_place p chars attrs q = turned_in p q (moved_in p attrs q (loaded_in p chars q))

-- ---- at once, for clock n by its quotients and remainders

-- the clock in its line, its line, and its frame
abbrev pub clock_in : Page → ℕ → ℕ
clock_in p n = n % ht_of p

abbrev pub line_in : Page → ℕ → ℕ
line_in p n = n / ht_of p % vt_of p

abbrev pub frame_in : Page → ℕ → ℕ
frame_in p n = n / ht_of p / vt_of p

-- what is carried after c clocks of a row
unfoldable pub row_at : Page → (chars attrs : List ℕ) → (row c : ℕ) → Carried
row_at p chars attrs r c =
    carried
    (row (cell_at p chars r c) (held_at p chars attrs r c) (code_at p chars r))
    (row (row_start p chars r) (held_at p chars attrs r 0) (code_at p chars r))

-- what the last row leaves, until the next frame
abbrev pub last_at : Page → (chars attrs : List ℕ) → Carried
last_at p chars attrs = row_at p chars attrs (rows_of p - 1) (ht_of p)

-- what is carried after c clocks of a line
unfoldable pub line_at : Page → (chars attrs : List ℕ) → (c line : ℕ) → Carried
line_at p chars attrs c line = pick (nat_lt line (visible_of p).0) (row_at p chars attrs (line / lines_of p) c) (last_at p chars attrs)

-- what is carried before clock c of a line of a frame: before clock 0 what the line before it left, and nothing at all before the first frame
unfoldable pub carried_before : Page → (chars attrs : List ℕ) → (c line frame : ℕ) → Carried
carried_before p chars attrs c line frame =
    pick (nat_lt 0 c)
    (line_at p chars attrs c line)
    (pick (nat_lt 0 line)
    (line_at p chars attrs (ht_of p) (line - 1))
    (pick (nat_lt 0 frame) (last_at p chars attrs) (carried (row 0 0 0) (row 0 0 0))))

-- [strength at-once] the state for clock n and a whole line are stated and computed at once, without single steps
-- [clock zero]
-- the place for clock n, counted from clock 0
unfoldable pub place_at : Page → (chars attrs : List ℕ) → ℕ → Place
place_at p chars attrs n = placed (frame_in p n % 256) (line_in p n) (clock_in p n) (carried_before p chars attrs (clock_in p n) (line_in p n) (frame_in p n))
