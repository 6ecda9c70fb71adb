-- Where the beam last moved before a clock, as `state_at` works it out. `spot-carried` ties it to `carried_before`.
use Rattle.std.specs.Prelude.{ℕ, ◌-◌, ◌/◌, Bool, ◌&&◌, ◌==◌, nat_lt}
use Rattle.lists.specs.Choice.{pick}
use Rattle.units.specs.Units.{clocks}
use Rattle.board.specs.declared.Page.{Page}
use Rattle.timing.specs.Fields.{ht_of, rows_of, lines_of, visible_of}
use Rattle.place.specs.declared.Spot.{Spot}

-- the end of the last row
abbrev pub last_spot : Page → Spot
last_spot p = record { row = rows_of p - 1; clocks = clocks (ht_of p) }

-- c clocks into a line: the row, and how many clocks of it are over; off the visible lines the end of the last row
unfoldable pub spot_in : Page → (c line : ℕ) → Spot
spot_in p c line =
    pick (nat_lt line (visible_of p).0) (record { row = line / lines_of p; clocks = clocks c }) (last_spot p)

-- before clock c of a line
unfoldable pub spot_before : Page → (c line : ℕ) → Spot
spot_before p c line =
    pick (nat_lt 0 c) (spot_in p c line) (pick (nat_lt 0 line) (spot_in p (ht_of p) (line - 1)) (last_spot p))

-- clock 0 of the first frame
abbrev pub origin_at : (c line frame : ℕ) → Bool
origin_at c line frame = (c == 0 && line == 0) && frame == 0
